-- The steps of the mended history, one by one.
use Rattle.std.proofs.Common.{ℕ, Bool, true, false, ◌≡◌, inl, inr, ◌≤◌, ◌&&◌, [], ◌∷◌, Some, None, cond, refl, sym, ap, subst, lit<}
use Rattle.std.proofs.lemmas.Bool.{eqb-true, and_parts}
use Rattle.rz_events.specs.declared.keys.Key.{Key}
use Rattle.rz_events.specs.declared.keys.Actor.{Actor}
use Rattle.rz_events.specs.declared.files.Published.{Published}
use Rattle.rz_events.specs.declared.events.Word.TheVariants.{Export}
use Rattle.rz_events.specs.declared.events.Event.TheVariants as e
use Rattle.rz_events.specs.Events.{same_key}
use Rattle.rz_core.specs.History.{Facts, facts, of_word, of_actor, Has}
use Rattle.rz_core.specs.ExportWord.{with_length}
use Rattle.rz_core.specs.ExportRows.{IsListed, IsLess}
use Rattle.rz_core.specs.Legal.{IsLegal}
use Rattle.rz_safety.specs.Rebuilt.{IsRebuilt}
use Rattle.rz_examples.specs.Plain.{plain, mender, block, places}
use Rattle.rz_examples.specs.Ordinary.{with_write}
use Rattle.rz_examples.specs.Mended.{refilled, hello_listed, with_disk, with_sources, mended, finished}
use Rattle.rz_examples.proofs.Courses.{finished_row}
use Rattle.rz_examples.proofs.Names.{file_there}
use Rattle.rz_examples.proofs.Steps.{node_1, node_2, node_3, the_write, legal_write}

pub legal_disk : IsLegal plain with_disk
legal_disk = (
  (
    ((legal_write, record { room = lit< tt; word = node_1; row = record { there = λ q. cc; next = refl } }), record { room = lit< tt; word = node_1; row = (refl, refl) }),
    record { room = lit< tt; word = tt; row = record { probed = inl refl; top = none; fence_is = refl } },
  ),
  record { room = lit< tt; word = node_1; row = record { lost = refl; loss_is = refl; enrolled = inl refl } },
)
  where
    none : (a : Actor) (l g : ℕ) → Has (of_word Export with_write) (e.Enroll a 1 l g) → l ≤ 1
    none a l g (inl is) = cc
    none a l g (inr (inl is)) = cc
    none a l g (inr (inr (inl is))) = cc
    none a l g (inr (inr (inr (inl is)))) = cc
    none a l g (inr (inr (inr (inr has)))) = absurd has

-- the one key that is published
pub one_key : (t : Bool) (key : Key) (p : Published) (f : Facts) → same_key key block ≡ t → Some p ≡ with_length f (cond (t && true) (Some (1, 7)) None) → same_key key block ≡ true
one_key true key p f q e = q
one_key false key p f q e = cc

pub is_listed_one : (key : Key) (p : Published) → IsListed (facts with_disk) (of_word Export with_disk) 1 key p → same_key key block ≡ true
is_listed_one key p li = one_key (same_key key block) key p (facts with_disk) refl li.told

pub same_is : (key at : Key) → same_key key at ≡ true → key ≡ at
same_is key at same = let p = and_parts _ _ same in both key.fid key.block (eqb-true _ _ p.0) (eqb-true _ _ p.1)
  where
    both : (a b : ℕ) → a ≡ at.fid → b ≡ at.block → ◌≡◌ {A = Key} (record { fid = a; block = b }) at
    both a b p q = subst (λ x. ◌≡◌ {A = Key} (record { fid = x; block = b }) at) (sym p) (ap (λ (y : ℕ). let k : Key = record { fid = at.fid; block = y } in k) q)

-- a key that is the block is not less than it, and not after it
pub not_less : (key : Key) → same_key key block ≡ true → IsLess key block → ⊥
not_less key same less = let never = subst (λ k. IsLess k block) (same_is key block same) less in cc

pub not_after : (key : Key) → same_key key block ≡ true → IsLess block key → ⊥
not_after key same less = let never = subst (λ k. IsLess block k) (same_is key block same) less in cc

pub legal_sources : IsLegal plain with_sources
legal_sources = (
  (
    (
      (
        legal_disk,
        record {
          room = lit< tt;
          word = tt;
          row = record {
            listed = record { live = refl; told = refl; named = (0, refl, (places, refl, refl)) };
            later = tt;
            least = λ key p after less li. not_less key (is_listed_one key p li) less;
            file = file_there;
          };
        },
      ),
      record { room = lit< tt; word = node_1; row = record { up = refl; place = (places, refl, refl); told = λ there. there } },
    ),
    record { room = lit< tt; word = node_2; row = record { up = refl; place = (places, refl, refl); told = (inl refl, (the_write, record { found = refl; stamp = refl; length = refl; base = refl })) } },
  ),
  record { room = lit< tt; word = node_3; row = record { up = refl; place = (places, refl, refl); told = (inl refl, (the_write, record { found = refl; stamp = refl; length = refl; base = refl })) } },
)

pub legal_mended : IsLegal plain mended
legal_mended = (
  (
    legal_sources,
    record {
      room = lit< tt;
      word = node_1;
      row = record {
        refill = record {
          up = refl;
          fence_is = refl;
          rebuilding = record {
            replaced = (1, inl refl);
            next = (1, hello_listed, record { after = (None, refl); key_is = refl }, refl);
            enough = (2 ∷ 1 ∷ [], ((lit< tt, tt), (tt, tt)), refl, (inl refl, (inr (inl refl), tt)));
            place = (places, refl, refl);
          };
        };
        absent = λ there. there;
        dated = λ past. past;
        cell = inr (record { keys = []; all = λ key there. absurd there; few = lit< tt });
      };
    },
  ),
  record { room = lit< tt; word = tt; row = λ key p after li. not_after key (one_key (same_key key block) key p (facts (refilled ∷ with_sources)) refl li.told) after },
)

pub legal_finished : IsLegal plain finished
legal_finished = (legal_mended, record { room = lit< tt; word = tt; row = finished_row })

pub mended_rebuilt : IsRebuilt (of_actor mender mended) 1 1 2 1
mended_rebuilt = (refl, refl, inr (refl, refl, (None, 0, refl, (refl, refl, (refl, refl, refl, refl, refl)))))

-- The marks say what the entries do, before and after a key is written.
use Rattle.std.proofs.Common.{◌≡◌, ℕ, ◌/◌, ◌<◌, ◌^◌, Bool, true, false, cond, not, ◌&&◌, List, Option, Some, None, is_some, sym, ap, ◌∙◌, refl, subst, arith}
use Rattle.std.specs.Prelude.{◌==◌, ◌||◌}
use Rattle.std.proofs.lemmas.Bool.Decides.{nat_tests}
use Rattle.std.specs.BTreeMap.{is_at}
use Rattle.rz_events.specs.Keys.{key_cmp, exact_keys}
use Rattle.rz_events.specs.declared.keys.Key.{Key}
use Rattle.rz_blocks.specs.declared.row.Row.{Row}
use Rattle.rz_blocks.specs.Marks.{is_marked, has_room, is_same, is_beside}
use Rattle.rz_blocks.specs.declared.blocks.BlockEntry.{BlockEntry}
use Rattle.rz_blocks.specs.Marked.{kept_at, is_public, AreMarked}
use Rattle.rz_blocks.proofs.Sorted.{tied}
use Rattle.rz_blocks.proofs.Shows.{Kept}

into : {A B : Type 0} (f : A → B) (b : Bool) (x y : A) → f (cond b x y) ≡ cond b (f x) (f y)
into f true x y = refl
into f false x y = refl

same-eq : (m n : ℕ) → m ≡ n → (m == n) ≡ true
same-eq m n h = grind (arith, nat_tests)

either-true : (a b : Bool) → a ≡ true → (a || b) ≡ true
either-true true b h = refl
either-true false b h = cc

or-true : (a b : Bool) → b ≡ true → (a || b) ≡ true
or-true true b h = refl
or-true false b h = h

public-there : (o : Option BlockEntry) → is_public o ≡ true → is_some o ≡ true
public-there None h = cc
public-there (Some e) h = refl

-- a marked key has a number of 64 bits
pub small-marked : (es : Kept) (marks : List Row) → AreMarked es marks → (q : Key) → is_marked marks 0 q ≡ true → q.block < 2 ^ 64
small-marked es marks m q h = m.small q (public-there (kept_at es q) (sym (m.marked q) ∙ h))

-- with more room
pub roomier : (es : Kept) (marks new : List Row) (key : Key) → AreMarked es marks → ((l : ℕ) (q : Key) → is_marked new l q ≡ is_marked marks l q)
    → ((l : ℕ) (q : Key) → has_room new l q ≡ (has_room marks l q || is_beside 0 key l q)) → AreMarked es new
roomier es marks new key m marked room = record {
  marked = λ q. marked 0 q ∙ m.marked q;
  room = λ q h. room 0 q ∙ either-true (has_room marks 0 q) (is_beside 0 key 0 q) (m.room q h);
  small = m.small;
}

-- a key for which room was made has it
pub room-made : (marks new : List Row) (key : Key) → ((l : ℕ) (q : Key) → has_room new l q ≡ (has_room marks l q || is_beside 0 key l q)) → has_room new 0 key ≡ true
room-made marks new key room =
    room 0 key
    ∙ or-true (has_room marks 0 key) (is_beside 0 key 0 key)
    (ap (λ b. b && (key.block / 64 == key.block / 64)) (same-eq key.fid key.fid refl) ∙ same-eq (key.block / 64) (key.block / 64) refl)

-- a key is written or taken out
module _ (es fs : Kept) (marks new : List Row) (key : Key) (o : Option BlockEntry) (x : Bool) where
  pub rewritten : AreMarked es marks → ((q : Key) → kept_at fs q ≡ cond (is_at (key_cmp key) q) o (kept_at es q))
      → ((l : ℕ) (q : Key) → is_marked new l q ≡ cond (is_same 0 key l q) x (is_marked marks l q)) → ((l : ℕ) (q : Key) → has_room new l q ≡ has_room marks l q)
      → x ≡ is_public o → (is_some o ≡ true → has_room marks 0 key ≡ true) → (is_some o ≡ true → key.block < 2 ^ 64) → AreMarked fs new
  rewritten m now marked room same roomy small = record {
    marked = λ q. marked 0 q ∙ ap (cond (is_at (key_cmp key) q) x) (m.marked q) ∙ ap (λ b. cond (is_at (key_cmp key) q) b (is_public (kept_at es q))) same
        ∙ sym (ap is_public (now q) ∙ into is_public (is_at (key_cmp key) q) o (kept_at es q));
    room = λ q h. room 0 q ∙ roomed q (is_at (key_cmp key) q) refl (ap is_some (sym (now q)) ∙ h);
    small = λ q h. bound q (is_at (key_cmp key) q) refl (ap is_some (sym (now q)) ∙ h);
  }
    where
      roomed : (q : Key) (b : Bool) → is_at (key_cmp key) q ≡ b → is_some (cond b o (kept_at es q)) ≡ true → has_room marks 0 q ≡ true
      roomed q true is h = ap (has_room marks 0) (sym (exact_keys key q (tied _ is))) ∙ roomy h
      roomed q false is h = m.room q h

      bound : (q : Key) (b : Bool) → is_at (key_cmp key) q ≡ b → is_some (cond b o (kept_at es q)) ≡ true → q.block < 2 ^ 64
      bound q true is h = subst (λ (k : Key). k.block < 2 ^ 64) (exact_keys key q (tied _ is)) (small h)
      bound q false is h = m.small q h

-- an entry is written over another that is published just where it is
pub overwritten : (es fs : Kept) (marks : List Row) (key : Key) (e : BlockEntry) → AreMarked es marks → ((q : Key) → kept_at fs q ≡ cond (is_at (key_cmp key) q) (Some e) (kept_at es q))
    → is_some (kept_at es key) ≡ true → is_public (kept_at es key) ≡ is_public (Some e) → AreMarked fs marks
overwritten es fs marks key e m now there same = record {
  marked = λ q. m.marked q ∙ said q (is_at (key_cmp key) q) refl ∙ ap is_public (sym (now q));
  room = λ q h. m.room q (was q (is_at (key_cmp key) q) refl (ap is_some (sym (now q)) ∙ h));
  small = λ q h. m.small q (was q (is_at (key_cmp key) q) refl (ap is_some (sym (now q)) ∙ h));
}
  where
    said : (q : Key) (b : Bool) → is_at (key_cmp key) q ≡ b → is_public (kept_at es q) ≡ is_public (cond b (Some e) (kept_at es q))
    said q true is = ap (λ (k : Key). is_public (kept_at es k)) (sym (exact_keys key q (tied _ is))) ∙ same
    said q false is = refl

    was : (q : Key) (b : Bool) → is_at (key_cmp key) q ≡ b → is_some (cond b (Some e) (kept_at es q)) ≡ true → is_some (kept_at es q) ≡ true
    was q true is h = ap (λ (k : Key). is_some (kept_at es k)) (sym (exact_keys key q (tied _ is))) ∙ there
    was q false is h = h

-- the entries of a file go, and so do its marks and the room for them
module _ (es fs : Kept) (marks new : List Row) (fid : ℕ) where
  pub forgotten : AreMarked es marks → ((q : Key) → kept_at fs q ≡ cond (q.fid == fid) None (kept_at es q))
      → ((l : ℕ) (q : Key) → is_marked new l q ≡ (not ((l == 0) && (q.fid == fid)) && is_marked marks l q))
      → ((l : ℕ) (q : Key) → has_room new l q ≡ (not ((l == 0) && (q.fid == fid)) && has_room marks l q)) → AreMarked fs new
  forgotten m now marked room = record {
    marked = λ q. marked 0 q ∙ said q (q.fid == fid) ∙ ap is_public (sym (now q));
    room = λ q h. room 0 q ∙ roomed q (q.fid == fid) (ap is_some (sym (now q)) ∙ h);
    small = λ q h. bound q (q.fid == fid) (ap is_some (sym (now q)) ∙ h);
  }
    where
      said : (q : Key) (b : Bool) → (not b && is_marked marks 0 q) ≡ is_public (cond b None (kept_at es q))
      said q true = refl
      said q false = m.marked q

      roomed : (q : Key) (b : Bool) → is_some (cond b None (kept_at es q)) ≡ true → (not b && has_room marks 0 q) ≡ true
      roomed q true h = cc
      roomed q false h = m.room q h

      bound : (q : Key) (b : Bool) → is_some (cond b None (kept_at es q)) ≡ true → q.block < 2 ^ 64
      bound q true h = cc
      bound q false h = m.small q h

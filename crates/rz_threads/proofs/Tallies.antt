-- A pass that holds the tokens of all words of a book.
use Rattle.std.proofs.Common.{◌≡◌, ◌==◌, ◌<◌, ◌≤◌, ◌-◌, ◌++◌, ℕ, zero, suc, Bool, true, false, cond, List, [], ◌∷◌, Option, Some, None, map, nat_le, option_map, slice_get, sym, refl, ap, ap₂, ◌∙◌, subst, inl, inr, arith}
use Rattle.std.specs.List.{AllByRecursion, AllZip}
use Rattle.std.proofs.lemmas.Bool.Decides.{nat_tests}
use Rattle.rz_events.specs.declared.keys.Actor.{Actor}
use Rattle.rz_events.specs.declared.keys.Actor.TheVariants.{Client, Rebuilder, Admin}
use Rattle.rz_events.specs.declared.events.Word.{Word}
use Rattle.rz_events.specs.declared.events.Word.TheVariants.{Export, Node, Own}
use Rattle.rz_script.specs.Lines.{IsActor}
use Rattle.rz_play.specs.World.{actors}
use Rattle.rz_play_locks.proofs.Barring.{of-actors}
use Rattle.rz_chronicle.specs.Keys.{IsOneOf, owner, word_key}
use Rattle.rz_chronicle.specs.Rules.{PassView, WordTokenView}
use Rattle.rz_chronicle.proofs.Settling.{one-of-left, one-of-right}
use Rattle.rz_threads_workers.specs.Gathered.{PassGoesOn, HoldsPass}
use Rattle.rz_threads_workers.specs.Moves.{HoldsAll}
use Rattle.rz_threads_workers.specs.declared.pool_worker.PoolWorker.{PoolWorker}
use Rattle.rz_threads_workers.specs.WorkerPool.{HasWorked, actor_of, pass_of}

-- The keys of a desk's tokens are those of their words.

keys-of-words : (ps : List WordTokenView) → map (λ (p : WordTokenView). word_key p.word) ps ≡ map word_key (map (λ (p : WordTokenView). p.word) ps)
keys-of-words [] = refl
keys-of-words (p ∷ ps) = ap (λ (ks : List ℕ). word_key p.word ∷ ks) (keys-of-words ps)

pub desk-keys : (old new : List ℕ) (export : WordTokenView) (ps : List WordTokenView) (sids : List ℕ) → new ≡ old ++ map (λ (p : WordTokenView). word_key p.word) (export ∷ ps)
    → export.word ≡ Export → map (λ (p : WordTokenView). p.word) ps ≡ map Node sids → new ≡ old ++ map word_key (Export ∷ map Node sids)
desk-keys old new export ps sids is first nodes =
    is ∙ ap (λ (ks : List ℕ). old ++ ks) (keys-of-words (export ∷ ps) ∙ ap (map word_key) (ap₂ (λ (a : Word) (words : List Word). a ∷ words) first nodes))

-- Workers that have worked are the same actors.

pub same-actors : {J L : Type 0} (count : L → ℕ) (kind : List ℕ) (ms ns : List (PoolWorker J L)) → AllZip (HasWorked count kind) ms ns → map (λ (p : PassView). p.actor) (map pass_of ns) ≡ map actor_of ms
same-actors count kind [] [] all = refl
same-actors count kind [] (n ∷ ns) all = absurd all
same-actors count kind (m ∷ ms) [] all = absurd all
same-actors count kind (m ∷ ms) (n ∷ ns) all = ap₂ (λ (a : Actor) (others : List Actor). a ∷ others) all.0.actor (same-actors count kind ms ns all.1)

-- All words.

at-most : (m n : ℕ) → nat_le m n ≡ true → m ≤ n
at-most m n is = grind (arith, nat_tests)

above : (m n : ℕ) → nat_le m n ≡ false → n < m
above m n is = grind (arith, nat_tests)

some-is : (a b : Word) → Some a ≡ Some b → a ≡ b
some-is a b is = cc (is)

node-is : (o : Option ℕ) (w : Word) → option_map Node o ≡ Some w → (n : ℕ) × (o ≡ Some n) × (Node n ≡ w)
node-is None w is = absurd (cc)
node-is (Some n) w is = (n, refl, some-is (Node n) w is)

node-there : (sids : List ℕ) (i n : ℕ) → slice_get sids i ≡ Some n → IsOneOf (word_key (Node n)) (map word_key (map Node sids))
node-there [] i n is = absurd (cc)
node-there (x ∷ sids) zero n is = let same : n ≡ x = cc (is) in inl (ap (λ (k : ℕ). word_key (Node k)) same)
node-there (x ∷ sids) (suc i) n is = inr (node-there sids i n is)

module _ (sids ks : List ℕ) (export : IsOneOf (word_key Export) ks) (nodes : (i n : ℕ) → slice_get sids i ≡ Some n → IsOneOf (word_key (Node n)) ks)
    (own : (by : Actor) → IsActor by → IsOneOf (word_key (Own by)) ks) (admin : IsOneOf (word_key (Own Admin)) ks) where
  abbrev Has : Word → Type 0
  Has w = IsOneOf (word_key w) ks

  at-place : (place : ℕ) (w : Word) (a b d e : Bool) → nat_le place 256 ≡ b → nat_le place 320 ≡ d → nat_le place 336 ≡ e
      → cond a (Some Export) (cond b (option_map Node (slice_get sids (place - 1))) (cond d (Some (Own (Client (place - 256)))) (cond e (Some (Own (Rebuilder (place - 320)))) (Some (Own Admin))))) ≡ Some w → Has w
  at-place place w true b d e p q r is = subst Has (some-is Export w is) export
  at-place place w false true d e p q r is = let found = node-is (slice_get sids (place - 1)) w is in subst Has found.2 (nodes (place - 1) found.0 found.1)
  at-place place w false false true e p q r is =
      let low = above place 256 p in let high = at-most place 320 q in
      subst Has (some-is (Own (Client (place - 256))) w is) (own (Client (place - 256)) (omega (arith, low), omega (arith, high)))
  at-place place w false false false true p q r is =
      let low = above place 320 q in let high = at-most place 336 r in
      subst Has (some-is (Own (Rebuilder (place - 320))) w is) (own (Rebuilder (place - 320)) (omega (arith, low), omega (arith, high)))
  at-place place w false false false false p q r is = subst Has (some-is (Own Admin) w is) admin

  holds-all : HoldsAll sids ks
  holds-all place w low is = at-place place w (place == 0) (nat_le place 256) (nat_le place 320) (nat_le place 336) refl refl refl is

-- the own words of those that are gathered
own-words : (front : PassView) (ps : List PassView) → AllByRecursion (HoldsPass front) ps → AllByRecursion (λ (by : Actor). IsOneOf (word_key (Own by)) front.keys) (map (λ (p : PassView). p.actor) ps)
own-words front [] all = tt
own-words front (p ∷ ps) all = (all.0.word, own-words front ps all.1)

-- The administrator's pass gathered those of all actors, and then took over the tokens of a desk.
pub gathered-all : (sids : List ℕ) (old mid new : PassView) (ps : List PassView) → old.actor ≡ Admin → IsOneOf (word_key (Own old.actor)) old.keys → PassGoesOn old mid
    → new.keys ≡ mid.keys ++ map word_key (Export ∷ map Node sids) → AllByRecursion (HoldsPass new) ps → map (λ (p : PassView). p.actor) ps ≡ actors → HoldsAll sids new.keys
gathered-all sids old mid new ps by own goes keys held are = holds-all sids new.keys (desk 0 (inl refl)) (λ i n is. desk (word_key (Node n)) (inr (node-there sids i n is))) workers admin
  where
    desk : (k : ℕ) → IsOneOf k (map word_key (Export ∷ map Node sids)) → IsOneOf k new.keys
    desk k is = subst (IsOneOf k) (sym keys) (one-of-right k mid.keys (map word_key (Export ∷ map Node sids)) is)

    workers : (a : Actor) → IsActor a → IsOneOf (word_key (Own a)) new.keys
    workers a is = of-actors (λ (b : Actor). IsOneOf (word_key (Own b)) new.keys) a is (subst (AllByRecursion (λ (b : Actor). IsOneOf (word_key (Own b)) new.keys)) are (own-words new ps held))

    first : IsOneOf (word_key (Own Admin)) old.keys
    first = subst (λ (a : Actor). IsOneOf (word_key (Own a)) old.keys) by own

    admin : IsOneOf (word_key (Own Admin)) new.keys
    admin =
        let then = subst (IsOneOf (word_key (Own Admin))) (sym goes.keys) (one-of-left (word_key (Own Admin)) old.keys goes.more first) in
        subst (IsOneOf (word_key (Own Admin))) (sym keys) (one-of-left (word_key (Own Admin)) mid.keys (map word_key (Export ∷ map Node sids)) then)

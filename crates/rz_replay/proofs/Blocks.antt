-- The record of a write at a node, and its bins.
use Rattle.std.proofs.Common.{◌≡◌, ℕ, zero, suc, Bool, true, false, cond, ◌+◌, List, [], ◌∷◌, ◌++◌, length, take, Option, Some, None, refl, ap, subst, arith, eq-eqb}
use Rattle.std.specs.Prelude.{slice_get, ◌*◌, ◌==◌}
use Rattle.std.proofs.Math.Seq.{take-append_seam}
use Rattle.std.proofs.lemmas.Bool.{eqb-true}
use Rattle.mj_angles.specs.declared.layout.Layout.{Layout}
use Rattle.mj_angles.specs.Layout.{inverse_of, cols_of}
use Rattle.rz_scrub.specs.Misfits.{IsBlock}
use Rattle.rz_events.specs.declared.records.Head.{Head}
use Rattle.rz_operation_model.specs.Rebuild.{position_in}
use Rattle.rz_core.specs.History.{Begun}
use Rattle.rz_core.specs.HeldRecords.{block_of, bins_at, record_at, record_on}
use Rattle.rz_log_laws.specs.Places.{IsApart}
use Rattle.rz_block_laws.proofs.Fetching.{length-words, shape}

-- a text's block has the size of the layout
pub is-block : (y : Layout) (text : List ℕ) → IsBlock y (block_of y text)
is-block y text = record { grid = record { shape = shape y; full = length-words text (inverse_of y * cols_of y) }; rows = refl; cols = refl }

pub record IsOfRecord (y : Layout) (n stamp : ℕ) (b : Option Begun) (p : Option (List ℕ)) (head : Head) (its : List ℕ) : Type 0 where
  pub begun : Begun
  pub places : List ℕ
  pub wrote : b ≡ Some begun
  pub placed : p ≡ Some places
  pub bins_are : bins_at y (block_of y begun.text) (position_in n 0 places) ≡ its

pub of-record : (y : Layout) (n stamp : ℕ) (b : Option Begun) (p : Option (List ℕ)) (head : Head) (its : List ℕ) → record_on y n stamp b p ≡ Some (head, its) → IsOfRecord y n stamp b p head its
of-record y n stamp (Some begun) (Some places) head its is =
    let same : record_at y stamp begun (position_in n 0 places) ≡ (head, its) = cc in
    record { begun = begun; places = places; wrote = refl; placed = refl; bins_are = ap (λ (r : Head × List ℕ). r.1) same }
of-record y n stamp None p head its is = absurd (cc)
of-record y n stamp (Some begun) None head its is = absurd (cc)

-- what stands in front
pub front : (k : ℕ) (a b : List ℕ) → length a ≡ k → take k (a ++ b) ≡ a
front k a b long = subst (λ (j : ℕ). take j (a ++ b) ≡ a) long (take-append_seam a b)

apart-more : (m : ℕ) (places : List ℕ) → IsApart (m ∷ places) → IsApart places
apart-more m places apart p q k at there = let same : suc p ≡ suc q = apart (suc p) (suc q) k at there in omega (arith, same)

-- the node of a position is found there, where no node stands twice
pub position-is : (n : ℕ) (places : List ℕ) (i p : ℕ) → IsApart places → slice_get places p ≡ Some n → position_in n i places ≡ i + p
position-is n [] i p apart at = absurd (cc)
position-is n (m ∷ places) i zero apart at = first (m == n) refl
  where
    first : (b : Bool) → (m == n) ≡ b → cond b i (position_in n (i + 1) places) ≡ i + 0
    first true is = omega arith
    first false is = let same : m ≡ n = cc in let yes : (m == n) ≡ true = eq-eqb m n same in absurd (cc)
position-is n (m ∷ places) i (suc p) apart at = next (position-is n places (i + 1) p (apart-more m places apart) at) (m == n) refl
  where
    next : position_in n (i + 1) places ≡ i + 1 + p → (b : Bool) → (m == n) ≡ b → cond b i (position_in n (i + 1) places) ≡ i + suc p
    next rest true is =
        let same : Some m ≡ Some n = ap Some (eqb-true m n is) in
        let never : 0 ≡ suc p = apart 0 (suc p) n same at in
        absurd (omega (arith, never))
    next rest false is = omega (arith, rest)

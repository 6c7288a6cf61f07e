-- Rows that many histories have.
use Rattle.std.proofs.Common.{ℕ, true, ◌≡◌, ◌⊎◌, inl, inr, ◌<◌, ◌≤◌, List, [], ◌∷◌, Some, refl, subst, arith, zero, suc, lit<}
use Rattle.std.proofs.lemmas.Nat.Bits.{bit_at_above}
use Rattle.std.specs.Int.Count.{ones}
use Rattle.std.specs.List.{slice_get}
use Rattle.rz_events.specs.Masks.{HasBit}
use Rattle.rz_events.specs.declared.keys.Actor.{Actor}
use Rattle.rz_events.specs.declared.records.Change.TheVariants as change
use Rattle.rz_events.specs.declared.events.Event.{Event}
use Rattle.rz_events.specs.declared.events.Event.TheVariants as e
use Rattle.rz_export_model.specs.Export.{is_mask}
use Rattle.rz_core.specs.History.{Facts, Begun, Has, IsPlace}
use Rattle.rz_core.specs.ExportRows.{HasKept, IsFree}
use Rattle.rz_core.specs.NodeRows.{IsNodeOf, IsWriting, IsRecord, cells_of}
use Rattle.rz_core.specs.Legal.{Allowed}
use Rattle.rz_examples.specs.Plain.{plain, block, places}
use Rattle.rz_examples.specs.Ordinary.{hello_record}
use Rattle.rz_examples.proofs.Steps.{the_write, room, bits}

-- Keeps.

pub writes : (f : Facts) (by : Actor) (n stamp p : ℕ) (b : Begun) → f.wrote stamp ≡ Some b → b.by ≡ by → b.key ≡ block → IsPlace f 1 p n
    → IsWriting f by n block stamp p
writes f by n stamp p b found by_is key_is place = record { writer = (b, record { found = found; by_is = by_is; key_is = key_is }); place = place }

-- a node that has no event keeps a record
pub first_keep : (f : Facts) (o run : List Event) (by : Actor) (n stamp p : ℕ) → IsNodeOf plain n → 0 < stamp → 0 < cells_of plain n
    → IsWriting f by n block stamp p → Allowed plain f [] o run (e.Did by n (change.Keep block stamp p))
first_keep f o run by n stamp p node above cells writing = record {
  room = lit< tt;
  word = node;
  row = record { keep = record { up = refl; fenced = above; writing = writing }; above = tt; cell = inr (room f n cells) };
}

-- the record of the first write
pub the_record : (f : Facts) → f.wrote 1 ≡ Some the_write → (b : Begun) × IsRecord f 1 hello_record b
the_record f found = (the_write, record { found = found; stamp = refl; length = refl; base = refl })

-- Publishes on nodes 1, 2 and 3, or 2, 3 and 4.

pub keeps_7 : (f : Facts) (o : List Event) (by : Actor) (stamp : ℕ) → f.places 1 ≡ Some places → (p : ℕ) → HasBit 7 p
    → (n : ℕ) × IsPlace f 1 p n
    × HasKept (e.Did by 3 (change.Keep block stamp 2) ∷ e.Did by 2 (change.Keep block stamp 1) ∷ e.Did by 1 (change.Keep block stamp 0) ∷ o) by n block stamp p
keeps_7 f o by stamp placed p b = elim (bits p b) [
  | inl z ↦ (1, (places, placed, rw z refl), inl (inr (inr (inl (rw z refl)))))
  | inr rest ↦ elim rest [
    | inl o ↦ (2, (places, placed, rw o refl), inl (inr (inl (rw o refl))))
    | inr t ↦ (3, (places, placed, rw t refl), inl (inl (rw t refl)))
  ]
]

-- the positions of the mask 14
pub bits_14 : (p : ℕ) → HasBit 14 p → (p ≡ 1) ⊎ ((p ≡ 2) ⊎ (p ≡ 3))
bits_14 zero b = cc
bits_14 (suc zero) b = inl refl
bits_14 (suc (suc zero)) b = inr (inl refl)
bits_14 (suc (suc (suc zero))) b = inr (inr refl)
bits_14 (suc (suc (suc (suc p)))) b = let z = bit_at_above 14 4 (suc (suc (suc (suc p)))) (omega arith) (omega arith) in cc

pub quorum_14 : is_mask plain.layout 14 ≡ true
unfolding ones
quorum_14 = refl

pub keeps_14 : (f : Facts) (o : List Event) (by : Actor) (stamp : ℕ) → f.places 1 ≡ Some places → (p : ℕ) → HasBit 14 p
    → (n : ℕ) × IsPlace f 1 p n
    × HasKept (e.Did by 4 (change.Keep block stamp 3) ∷ e.Did by 3 (change.Keep block stamp 2) ∷ e.Did by 2 (change.Keep block stamp 1) ∷ o) by n block stamp p
keeps_14 f o by stamp placed p b = elim (bits_14 p b) [
  | inl z ↦ (2, (places, placed, rw z refl), inl (inr (inr (inl (rw z refl)))))
  | inr rest ↦ elim rest [
    | inl o ↦ (3, (places, placed, rw o refl), inl (inr (inl (rw o refl))))
    | inr t ↦ (4, (places, placed, rw t refl), inl (inl (rw t refl)))
  ]
]

-- Enrolments.

-- what holds of the loss and the fence of each enrolment of node n
abbrev pub AllEnrolled : (ℕ → ℕ → Type 0) → ℕ → List Event → Type 0
AllEnrolled P n [] = Unit {0}
AllEnrolled P n (e.Enroll by m loss fence ∷ w) = (m ≡ n → P loss fence) × AllEnrolled P n w
AllEnrolled P n (_ ∷ w) = AllEnrolled P n w

pub enrolled_all : (P : ℕ → ℕ → Type 0) (n : ℕ) (w : List Event) → AllEnrolled P n w → (by : Actor) (loss fence : ℕ) → Has w (e.Enroll by n loss fence) → P loss fence
enrolled_all P n [] all by loss fence has = absurd has
enrolled_all P n (e.Enroll a m l f ∷ w) all by loss fence (inl is) = subst (λ x. P x fence) l_is (subst (λ y. P l y) f_is (all.0 m_is))
  where
    m_is : m ≡ n
    m_is = cc

    l_is : l ≡ loss
    l_is = cc

    f_is : f ≡ fence
    f_is = cc
enrolled_all P n (e.Enroll a m l f ∷ w) all by loss fence (inr has) = enrolled_all P n w all.1 by loss fence has
enrolled_all P n (x ∷ w) all by loss fence (inl is) = cc
enrolled_all P n (x ∷ w) all by loss fence (inr has) = enrolled_all P n w all by loss fence has

-- no fence above s was given to node n
abbrev pub NoneAbove : ℕ → ℕ → List Event → Type 0
NoneAbove n s w = AllEnrolled (λ loss fence. fence ≤ s) n w

pub free_at : (w : List Event) (n s : ℕ) → NoneAbove n s w → IsFree w n s
free_at w n s none = enrolled_all (λ loss fence. fence ≤ s) n w none

-- the node at a position of the file is this one
place_is : (f : Facts) (p n m : ℕ) → f.places 1 ≡ Some places → slice_get places p ≡ Some m → IsPlace f 1 p n → m ≡ n
place_is f p n m placed at (given, there, is) = let same : given ≡ places = cc in cc

free_node : (f : Facts) (w : List Event) (s p n m : ℕ) → f.places 1 ≡ Some places → slice_get places p ≡ Some m → NoneAbove m s w → IsPlace f 1 p n → IsFree w n s
free_node f w s p n m placed at none place = subst (λ k. IsFree w k s) (place_is f p n m placed at place) (free_at w m s none)

pub free_7 : (f : Facts) (w : List Event) (s : ℕ) → f.places 1 ≡ Some places → NoneAbove 1 s w → NoneAbove 2 s w → NoneAbove 3 s w → (p n : ℕ)
    → HasBit 7 p → IsPlace f 1 p n → IsFree w n s
free_7 f w s placed first second third p n b place = elim (bits p b) [
  | inl z ↦ free_node f w s p n 1 placed (rw z refl) first place
  | inr rest ↦ elim rest [
    | inl o ↦ free_node f w s p n 2 placed (rw o refl) second place
    | inr t ↦ free_node f w s p n 3 placed (rw t refl) third place
  ]
]

pub free_14 : (f : Facts) (w : List Event) (s : ℕ) → f.places 1 ≡ Some places → NoneAbove 2 s w → NoneAbove 3 s w → NoneAbove 4 s w → (p n : ℕ)
    → HasBit 14 p → IsPlace f 1 p n → IsFree w n s
free_14 f w s placed second third fourth p n b place = elim (bits_14 p b) [
  | inl z ↦ free_node f w s p n 2 placed (rw z refl) second place
  | inr rest ↦ elim rest [
    | inl o ↦ free_node f w s p n 3 placed (rw o refl) third place
    | inr t ↦ free_node f w s p n 4 placed (rw t refl) fourth place
  ]
]

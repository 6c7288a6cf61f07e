-- A new disk onto which an old one was copied.
use Rattle.std.proofs.Common.{◌≡◌, ◌⊎◌, inl, inr, ⊎_elim, ℕ, ◌*◌, ◌/◌, ◌%◌, Bool, IsTrue, Option, List, length, get_or, sym, ◌∙◌, ap, subst}
use Rattle.rz_disk.specs.Images.{Only}
use Rattle.rz_events.specs.declared.records.Head.{Head}
use Rattle.rz_record.specs.Slot.{Rec}
use Rattle.rz_cells_slots.specs.declared.geometry.Geometry.{Geometry}
use Rattle.rz_cells_slots.specs.Held.{Apart, Made, Records, heads_of}
use Rattle.rz_cells_slots.specs.Shape.{disk_bytes}
use Rattle.rz_cells_slots.specs.Stands.{IsShut, StandsFor}
use Rattle.rz_cells_slots.specs.Open.{IsOpen}
use Rattle.rz_cells_slots.specs.Old.{CarriesOver, HoldsOld, OldStandsFor, paired}
use Rattle.rz_cells_slots.specs.OldOpening.{NoKeyTwice, OldFitTo}
use Rattle.rz_cells_slots.specs.Copied.{HoldsBoth, HoldsCopy, HoldsPairs}
use Rattle.rz_cells_slots.proofs.OldOpened.{same_old_cells}
use Rattle.rz_cells_slots.proofs.Pairs.{paired_apart, paired_heads, paired_long, paired_some}
use Rattle.rz_cells_slots.proofs.Refused.{made_of}

module _ (g : Geometry) (fence : ℕ) (old text : List ℕ) (both : HoldsBoth g fence old text) where
  -- both texts stand for the same records
  pub carried : (held : Records) × OldStandsFor g fence old held × StandsFor g fence text held
  carried =
      let made = made_of (paired both.0) both.3 in
      (made.0, (both.0, both.1, made.1), (paired both.0, both.2, made.1))

  pub over : CarriesOver g old text
  over = (fence, carried.0, carried.1, carried.2)

  -- the old one stands for no others
  pub found : (its : ℕ) (held : Records) → OldStandsFor g its old held → (its ≡ fence) × StandsFor g fence text held
  found its held stands =
      let same = same_old_cells g its fence old stands.0 both.0 stands.1 both.1 in (
        sym stands.1.header.fence_is ∙ both.1.header.fence_is,
        (paired both.0, both.2, subst (λ (l : List (Option Rec)). Made (paired l) held) same stands.2),
      )

-- the cells that an old text holds, with their heads
abbrev pub HasCells : Geometry → ℕ → List ℕ → List (Option Head) → Type 0
HasCells g fence old heads = (its : List (Option Rec)) × HoldsOld g fence old its × (heads_of its ≡ heads)

module _ (g : Geometry) (fence : ℕ) (old : List ℕ) (heads : List (Option Head)) (has : HasCells g fence old heads) where
  pub copy_both : NoKeyTwice heads → (text : List ℕ) → HoldsCopy g fence old heads text → HoldsBoth g fence old text
  copy_both once text copy =
      (has.0, has.1, (copy fence has.0 has.1 has.2).holds, subst Apart (sym (paired_heads has.0 ∙ ap paired has.2)) (paired_apart heads once))

  pub copy_crash : NoKeyTwice heads → (text : List ℕ) (Was : Type 0) → Was ⊎ IsShut text ⊎ HoldsCopy g fence old heads text → Was ⊎ IsShut text ⊎ CarriesOver g old text
  copy_crash once text Was left = ⊎_elim
      (λ (was : Was). inl was)
      (λ (new : IsShut text ⊎ HoldsCopy g fence old heads text). inr (⊎_elim
      (λ (shut : IsShut text). inl shut)
      (λ (copy : HoldsCopy g fence old heads text). inr (over g fence old text (copy_both once text copy)))
      new))
      left

-- a disk that was copied makes open cells
pub open_copied : (tells : Bool) (text : List ℕ) (image : List ℕ → Type 0) (g : Geometry) (fence : ℕ) (gates : List ℕ) (heads : List (Option Head)) → length text ≡ disk_bytes g → Only text image → length heads ≡ g.cells → OldFitTo g heads g.cells
    → ((c : ℕ) → get_or gates c 0 ≡ 0) → (IsTrue tells → (its : List (Option Rec)) × HoldsPairs g fence text its × (heads_of its ≡ heads)) → IsOpen tells text image g fence gates (paired heads)
open_copied tells text image g fence gates heads size settled count fits shut has = record {
  size = size;
  settled = settled;
  count = paired_long heads ∙ ap (λ (n : ℕ). 2 * n) count;
  apart = paired_apart heads fits.once;
  valid = λ c h is. fits.valid (c / 2) h (paired_some heads c h is).1;
  layout = λ c h is. fits.layout (c / 2) h (paired_some heads c h is).1;
  known = λ told c lt. ap (λ (b : ℕ). b % 2) (shut c ∙ sym ((has told).1.gates c lt));
  holds = λ told. let its = has told in (paired its.0, its.1.holds, paired_heads its.0 ∙ ap paired its.2);
}

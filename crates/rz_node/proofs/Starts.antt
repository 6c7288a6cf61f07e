-- What a start finds.
use Rattle.std.proofs.Common.{◌≡◌, ◌⊎◌, inl, inr, ⊎_elim, ℕ, Bool, true, false, cond, List, Option, Some, None, refl, sym, ◌∙◌, ap, subst}
use Rattle.std.specs.Prelude.{IsTrue, IsSome}
use Rattle.std.specs.FinMap as maps
use Rattle.rz_events.specs.Keys.{key_cmp}
use Rattle.rz_events.specs.declared.records.Head.{Head}
use Rattle.rz_events.specs.declared.nodes.Phase.{Phase}
use Rattle.rz_events.specs.declared.nodes.Phase.TheVariants.{Up, Down, Lost}
use Rattle.rz_events.specs.declared.nodes.StartAnswer.TheVariants as start
use Rattle.rz_node_model.specs.declared.pending.Pending.{Pending}
use Rattle.rz_node_model.specs.Afterwards.{taken, after_start}
use Rattle.rz_node_model.specs.Records.{Records}
use Rattle.rz_node_model.specs.States.{NodeState}
use Rattle.rz_index.specs.declared.index.Entry.{Entry}
use Rattle.rz_index.specs.Indexed.{Indexed}
use Rattle.rz_cells_slots.specs.declared.geometry.Geometry.{Geometry}
use Rattle.rz_cells_slots.specs.Held.{Apart}
use Rattle.rz_cells_slots.specs.Held as cells
use Rattle.rz_cells_slots.specs.Open.{Finds}
use Rattle.rz_cells_slots.specs.Stands.{StandsFor}
use Rattle.rz_node.specs.Kept.{held_by, IsTied}
use Rattle.rz_node.specs.View.{IsReady, state_of}
use Rattle.rz_node.specs.DownDisk.{HoldsHeld, has_change, has_taken, CanTell, IsDown}
use Rattle.rz_node.proofs.Listed.{same-held}
use Rattle.rz_node.proofs.Maps.{made-apart}

pub ready-down : (phase : Phase) (P Q : Type 0) → phase ≡ Down → IsReady phase P Q → Q
ready-down phase P Q is ready = subst (λ (p : Phase). IsReady p P Q) is ready

pub down-ready : (phase : Phase) (P Q : Type 0) → phase ≡ Down → Q → IsReady phase P Q
down-ready phase P Q is waits = subst (λ (p : Phase). IsReady p P Q) (sym is) waits

pub lost-ready : (phase : Phase) (P Q : Type 0) → phase ≡ Lost → IsReady phase P Q
lost-ready phase P Q is = subst (λ (p : Phase). IsReady p P Q) (sym is) tt

-- the heads that were found show the records that the text holds
found-held : (g : Geometry) (fence its : ℕ) (text : List ℕ) (heads : List (Option Head)) (index : Indexed) (held : Records) → IsTied g.cells heads index → Finds g text fence heads → HoldsHeld g its text held
    → (fence ≡ its) × (held_by index.entries heads ≡ held)
found-held g fence its text heads index held tied finds (hs, (cells, holds, is), apart, (other, other_tied, shows)) =
    let f = finds its cells holds in
    let same : heads ≡ hs = f.1 ∙ is in (
      f.0,
      ap (held_by index.entries) same ∙ same-held g.cells hs index other (subst (λ (xs : List (Option Head)). IsTied g.cells xs index) same tied) other_tied ∙ shows,
    )

-- a text that holds records stands for some
pub holds-stands : (g : Geometry) (fence : ℕ) (text : List ℕ) (held : Records) → HoldsHeld g fence text held → (records : cells.Records) × StandsFor g fence text records
holds-stands g fence text held (hs, (its, holds, is), apart, shown) =
    let made = made-apart its (subst Apart (sym is) apart) in
    (made.0, (its, holds, made.1))

-- and so does the text of a down node's disk
pub down-stands : (tells : Bool) (text : List ℕ) (image : List ℕ → Type 0) (g : Geometry) (fence : ℕ) (undecided : Option Pending) (held : Records) → IsDown tells image g fence undecided held → IsTrue tells → image text → (records : cells.Records) × StandsFor g fence text records
down-stands tells text image g fence undecided held down told here = ⊎_elim
    (λ (was : HoldsHeld g fence text held). holds-stands g fence text held was)
    (λ (has : HoldsHeld g fence text (taken undecided held)). holds-stands g fence text (taken undecided held) has)
    (down.each told text here)

-- a change is taken only where one was left undecided
pub some-taken : (undecided : Option Pending) (took : Bool) (held : Records) → took ≡ has_taken undecided held → took ≡ true → IsSome undecided
some-taken None took held is took_it = let never : true ≡ false = sym took_it ∙ is in absurd (cc)
some-taken (Some change) took held is took_it = refl

-- what is held after a start, by whether it took
abbrev held_after : Bool → Option Pending → Records → Records
held_after took undecided held = cond took (taken undecided held) held

not-both : {A : Type 0} (b : Bool) → b ≡ true → b ≡ false → A
not-both b t f = let never : true ≡ false = sym t ∙ f in absurd (cc)

as-taken : (undecided : Option Pending) (took : Bool) (held held' : Records) → CanTell undecided held → took ≡ has_taken undecided held' → (held' ≡ held) ⊎ (held' ≡ taken undecided held) → held' ≡ held_after took undecided held
as-taken None true held held' tell took (inl same) = same
as-taken None true held held' tell took (inr same) = same
as-taken None false held held' tell took (inl same) = same
as-taken None false held held' tell took (inr same) = same
as-taken (Some change) false held held' tell took (inl same) = same
as-taken (Some change) true held held' tell took (inr same) = same
as-taken (Some change) true held held' tell took (inl same) = not-both true refl (took ∙ ap (has_change change) same ∙ tell.0)
as-taken (Some change) false held held' tell took (inr same) = not-both false (took ∙ ap (has_change change) same ∙ tell.1) refl

after-started : (took : Bool) (losses fence : ℕ) (undecided : Option Pending) (entries : maps.FinMap key_cmp Entry) (heads : List (Option Head)) (fence' : ℕ) (held' : Records)
    → fence' ≡ fence → held' ≡ held_after took undecided (held_by entries heads)
    → (let s : NodeState = record { phase = Up; fence = fence'; losses = losses; held = held'; undecided = None } in s) ≡ after_start (start.Started took) (state_of Down losses undecided fence entries heads)
after-started true losses fence undecided entries heads fence' held' f h = λ i. record { phase = Up; fence = f i; losses = losses; held = h i; undecided = None }
after-started false losses fence undecided entries heads fence' held' f h = λ i. record { phase = Up; fence = f i; losses = losses; held = h i; undecided = None }

module _ (tells : Bool) (text : List ℕ) (image : List ℕ → Type 0) (g : Geometry) (losses fence : ℕ) (undecided : Option Pending) (entries : maps.FinMap key_cmp Entry) (heads : List (Option Head))
    (down : IsDown tells image g fence undecided (held_by entries heads)) (told : IsTrue tells) (here : image text) where
  -- the state after a start is the one before it, up, with the change or without it
  pub started : (phase : Phase) → phase ≡ Down → (fence' : ℕ) (heads' : List (Option Head)) (index' : Indexed) (took : Bool) → IsTied g.cells heads' index' → Finds g text fence' heads' → took ≡ has_taken undecided (held_by index'.entries heads')
      → state_of Up losses None fence' index'.entries heads' ≡ after_start (start.Started took) (state_of phase losses undecided fence entries heads)
  started phase is_down fence' heads' index' took tied finds took_is =
      subst (λ (p : Phase). state_of Up losses None fence' index'.entries heads' ≡ after_start (start.Started took) (state_of p losses undecided fence entries heads)) (sym is_down)
      (⊎_elim
      (λ (was : HoldsHeld g fence text (held_by entries heads)).
      let f = found-held g fence' fence text heads' index' (held_by entries heads) tied finds was in
      after-started took losses fence undecided entries heads fence' (held_by index'.entries heads') f.0 (as-taken undecided took (held_by entries heads) (held_by index'.entries heads') down.told took_is (inl f.1)))
      (λ (has : HoldsHeld g fence text (taken undecided (held_by entries heads))).
      let f = found-held g fence' fence text heads' index' (taken undecided (held_by entries heads)) tied finds has in
      after-started took losses fence undecided entries heads fence' (held_by index'.entries heads') f.0 (as-taken undecided took (held_by entries heads) (held_by index'.entries heads') down.told took_is (inr f.1)))
      (down.each told text here))

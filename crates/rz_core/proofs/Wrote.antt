-- The writes that began, by the export's word alone.
use Rattle.std.proofs.Common.{◌≡◌, ℕ, Bool, true, false, cond, List, [], ◌∷◌, Option, Some, None, refl, sym, ◌∙◌, ap}
use Rattle.rz_events.specs.declared.events.Word.TheVariants.{Export}
use Rattle.rz_events.specs.declared.events.Event.{Event}
use Rattle.rz_events.specs.declared.events.Event.TheVariants as e
use Rattle.rz_events.specs.Events.{word_of, same_word}
use Rattle.rz_core.specs.History.{Begun, wrote, begun_by, first_some, of_word}

-- only the export's word has writes that begin
pub not-begun : (s : ℕ) (x : Event) → same_word Export (word_of x) ≡ false → begun_by s x ≡ None
not-begun s (e.Begin by key stamp base text) is = absurd cc
not-begun s _ is = refl

pub first-none : (o : Option Begun) (p : Option Begun) → p ≡ None → first_some o p ≡ o
first-none None p none = none
first-none (Some b) p none = refl

pub wrote-export : (h : List Event) (s : ℕ) → wrote (of_word Export h) s ≡ wrote h s
wrote-export [] s = refl
wrote-export (x ∷ h) s = go (same_word Export (word_of x)) refl (wrote-export h s)
  where
    go : (b : Bool) → same_word Export (word_of x) ≡ b → wrote (of_word Export h) s ≡ wrote h s → wrote (cond b (x ∷ of_word Export h) (of_word Export h)) s ≡ first_some (wrote h s) (begun_by s x)
    go true is rest = ap (λ (o : Option Begun). first_some o (begun_by s x)) rest
    go false is rest = rest ∙ sym (first-none (wrote h s) (begun_by s x) (not-begun s x is))

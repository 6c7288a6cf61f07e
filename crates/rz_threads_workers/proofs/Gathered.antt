-- Passes that are gathered one after another.
use Rattle.std.proofs.Common.{◌≡◌, ◌++◌, [], ◌∷◌, ℕ, List, sym, refl, ap, ◌∙◌, subst, append_assoc, append-nil}
use Rattle.std.specs.List.{AllByRecursion}
use Rattle.rz_events.specs.declared.events.Word.TheVariants.{Own}
use Rattle.rz_chronicle.specs.Keys.{actor_key, word_key, IsOneOf}
use Rattle.rz_chronicle.specs.Holds.{Stays}
use Rattle.rz_chronicle.specs.Kinds.{IsFit}
use Rattle.rz_chronicle.specs.Rules.{PassView}
use Rattle.rz_chronicle.proofs.Same.{actor-same}
use Rattle.rz_chronicle.proofs.Settling.{later-still, one-of-left, one-of-right}
use Rattle.rz_threads_workers.specs.Gathered.{PassGoesOn, HoldsPass}

-- what a pass holds of another's actor it still holds when it has gone on
pub held-still : (other old new : PassView) → PassGoesOn old new → HoldsPass old other → HoldsPass new other
held-still other old new goes h = record {
  held = subst (IsOneOf (actor_key other.actor)) (sym goes.keys) (one-of-left (actor_key other.actor) old.keys goes.more h.held);
  word = subst (IsOneOf (word_key (Own other.actor))) (sym goes.keys) (one-of-left (word_key (Own other.actor)) old.keys goes.more h.word);
  own = actor-same other.actor new.log old.log (goes.stays (actor_key other.actor) h.held) ∙ h.own;
}

-- the pass of which the keys and the log are taken over
pub held-now : (front other : PassView) (old : List ℕ) → IsOneOf (actor_key other.actor) other.keys → IsOneOf (word_key (Own other.actor)) other.keys → front.keys ≡ old ++ other.keys → Stays other.keys other.log front.log → HoldsPass front other
held-now front other old own word keys stays = record {
  held = subst (IsOneOf (actor_key other.actor)) (sym keys) (one-of-right (actor_key other.actor) old other.keys own);
  word = subst (IsOneOf (word_key (Own other.actor))) (sym keys) (one-of-right (word_key (Own other.actor)) old other.keys word);
  own = actor-same other.actor front.log other.log (stays (actor_key other.actor) own);
}

pub goes-nowhere : (p : PassView) → PassGoesOn p p
goes-nowhere p = record { actor = refl; more = []; keys = sym (append-nil p.keys); stays = λ k is. refl; later = ([], refl) }

pub goes-further : (a b c : PassView) → PassGoesOn a b → PassGoesOn b c → PassGoesOn a c
goes-further a b c p q = record {
  actor = q.actor ∙ p.actor;
  more = p.more ++ q.more;
  keys = q.keys ∙ (ap (λ (ks : List ℕ). ks ++ q.more) p.keys ∙ append_assoc a.keys p.more q.more);
  stays = λ k is. q.stays k (subst (IsOneOf k) (sym p.keys) (one-of-left k a.keys p.more is)) ∙ p.stays k is;
  later = later-still a.log b.log c.log p.later q.later;
}

-- the passes so far are gathered
pub record SoFar (kind : List ℕ) (start : PassView) (all rest : List PassView) (now : PassView) : Type 0 where
  pub taken : List PassView
  pub split : all ≡ taken ++ rest
  pub goes : PassGoesOn start now
  pub held : AllByRecursion (HoldsPass now) taken
  pub fit : IsFit kind now.log

all-held : (ps : List PassView) (mid new : PassView) → PassGoesOn mid new → AllByRecursion (HoldsPass mid) ps → AllByRecursion (HoldsPass new) ps
all-held [] mid new goes all = tt
all-held (p ∷ ps) mid new goes all = (held-still p mid new goes all.0, all-held ps mid new goes all.1)

all-and : (P : PassView → Type 0) (ps : List PassView) (p : PassView) → AllByRecursion P ps → P p → AllByRecursion P (ps ++ p ∷ [])
all-and P [] p all here = (here, tt)
all-and P (x ∷ ps) p all here = (all.0, all-and P ps p all.1 here)

pub so-far-first : (kind : List ℕ) (start : PassView) (all rest : List PassView) → rest ≡ all → IsFit kind start.log → SoFar kind start all rest start
so-far-first kind start all rest same fit = record { taken = []; split = sym same; goes = goes-nowhere start; held = tt; fit = fit }

pub so-far-more : (kind : List ℕ) (start : PassView) (all rest rest' : List PassView) (p mid new : PassView) → rest ≡ p ∷ rest' → SoFar kind start all rest mid → PassGoesOn mid new → HoldsPass new p → IsFit kind new.log
    → SoFar kind start all rest' new
so-far-more kind start all rest rest' p mid new is s goes held fit = record {
  taken = s.taken ++ p ∷ [];
  split = s.split ∙ (ap (λ (r : List PassView). s.taken ++ r) is ∙ sym (append_assoc s.taken (p ∷ []) rest'));
  goes = goes-further start mid new s.goes goes;
  held = all-and (HoldsPass new) s.taken p (all-held s.taken mid new goes s.held) held;
  fit = fit;
}

-- Passes that have done nothing, gathered one after another.
use Rattle.std.proofs.Common.{◌≡◌, ◌<◌, ◌≤◌, ◌+◌, ◌-◌, ◌++◌, [], ◌∷◌, ℕ, zero, suc, List, length, sym, refl, ap, ◌∙◌, subst, inl, inr, append_assoc, append-nil, arith}
use Rattle.std.specs.List.{AllByRecursion}
use Rattle.std.specs.Prelude.{slice_index_or}
use Rattle.rz_events.specs.declared.keys.Actor.{Actor}
use Rattle.rz_events.specs.declared.keys.Actor.TheVariants.{Client, Rebuilder, Admin}
use Rattle.rz_events.specs.declared.events.Word.TheVariants.{Own}
use Rattle.rz_events.specs.declared.events.Event.{Event}
use Rattle.rz_chronicle.specs.Dealing.{new_pass, ArePasses}
use Rattle.rz_chronicle.specs.Keys.{IsMember, IsOneOf, actor_key, word_key, events_at, own_keys}
use Rattle.rz_chronicle.specs.Holds.{Stays}
use Rattle.rz_chronicle.specs.Rules.{PassView}
use Rattle.rz_chronicle.proofs.Settling.{one-of-left, one-of-right}
use Rattle.rz_store_turns.specs.Joined.{HasDoneNothing, HasTokens, HasGathered}
use Rattle.rz_store_turns.specs.Sole.{HoldsAll}

-- the passes so far
pub record SoFar (start : PassView) (all rest : List PassView) (now : PassView) : Type 0 where
  pub taken : List PassView
  pub split : all ≡ taken ++ rest
  pub left : AllByRecursion (λ (p : PassView). p.log ≡ []) rest
  pub gathered : HasGathered start taken now

pub first : (start : PassView) (all rest : List PassView) → rest ≡ all → HasDoneNothing start → AllByRecursion (λ (p : PassView). p.log ≡ []) all → SoFar start all rest start
first start all rest same idle none = record {
  taken = [];
  split = sym same;
  left = subst (AllByRecursion (λ (p : PassView). p.log ≡ [])) (sym same) none;
  gathered = record { actor = refl; own = λ k is. is; theirs = tt; idle = idle };
}

-- one of the keys of a list is one of its parts
one-of-either : (Z : Type 0) (k : ℕ) (xs ys : List ℕ) → (IsOneOf k xs → Z) → (IsOneOf k ys → Z) → IsOneOf k (xs ++ ys) → Z
one-of-either Z k [] ys left right is = right is
one-of-either Z k (x ∷ xs) ys left right is = elim is [ inl e ↦ left (inl e) | inr more ↦ one-of-either Z k xs ys (λ m. left (inr m)) right more ]

idle-more : (p mid new : PassView) → p.log ≡ [] → HasDoneNothing mid → new.keys ≡ mid.keys ++ p.keys → Stays mid.keys mid.log new.log → Stays p.keys p.log new.log → HasDoneNothing new
idle-more p mid new none idle keys stays gathers k is = one-of-either (events_at k new.log ≡ events_at k []) k mid.keys p.keys (λ own. stays k own ∙ idle k own) (λ their. gathers k their ∙ ap (events_at k) none) (subst (IsOneOf k) keys is)

pub has-still : (ps : List PassView) (mid new : PassView) → HasTokens new mid.keys → AllByRecursion (λ (p : PassView). HasTokens mid p.keys) ps → AllByRecursion (λ (p : PassView). HasTokens new p.keys) ps
has-still [] mid new on all = tt
has-still (p ∷ ps) mid new on all = (λ k is. on k (all.0 k is), has-still ps mid new on all.1)

all-and : (P : PassView → Type 0) (ps : List PassView) (p : PassView) → AllByRecursion P ps → P p → AllByRecursion P (ps ++ p ∷ [])
all-and P [] p all here = (here, tt)
all-and P (x ∷ ps) p all here = (all.0, all-and P ps p all.1 here)

pub more : (start : PassView) (all rest rest' : List PassView) (p mid new : PassView) → rest ≡ p ∷ rest' → SoFar start all rest mid → new.actor ≡ mid.actor → new.keys ≡ mid.keys ++ p.keys
    → Stays mid.keys mid.log new.log → Stays p.keys p.log new.log → SoFar start all rest' new
more start all rest rest' p mid new is s actor keys stays gathers =
    let left = subst (AllByRecursion (λ (q : PassView). q.log ≡ [])) is s.left in
    let own : HasTokens new mid.keys = λ k has. subst (IsOneOf k) (sym keys) (one-of-left k mid.keys p.keys has) in
    let its : HasTokens new p.keys = λ k has. subst (IsOneOf k) (sym keys) (one-of-right k mid.keys p.keys has) in
    record {
      taken = s.taken ++ p ∷ [];
      split = s.split ∙ (ap (λ (r : List PassView). s.taken ++ r) is ∙ sym (append_assoc s.taken (p ∷ []) rest'));
      left = left.1;
      gathered = record {
        actor = actor ∙ s.gathered.actor;
        own = λ k has. own k (s.gathered.own k has);
        theirs = all-and (λ (q : PassView). HasTokens new q.keys) s.taken p (has-still s.taken mid new own s.gathered.theirs) its;
        idle = idle-more p mid new left.0 s.gathered.idle keys stays gathers;
      };
    }

pub at-end : (start : PassView) (all : List PassView) (now : PassView) → SoFar start all [] now → HasGathered start all now
at-end start all now s = subst (λ (ps : List PassView). HasGathered start ps now) (sym (s.split ∙ append-nil s.taken)) s.gathered

-- Passes by their places.

pub all-by-place : (P : PassView → Type 0) (ps : List PassView) → ((i : ℕ) (d : PassView) → i < length ps → P (slice_index_or ps i d)) → AllByRecursion P ps
all-by-place P [] each = tt
all-by-place P (p ∷ ps) each = (each 0 p (omega arith), all-by-place P ps (λ i d low. each (suc i) d (omega (arith, low))))

pub at-place : (P : PassView → Type 0) (ps : List PassView) (i : ℕ) (d : PassView) → i < length ps → AllByRecursion P ps → P (slice_index_or ps i d)
at-place P [] i d low all = absurd (omega (arith, low))
at-place P (p ∷ ps) zero d low all = all.0
at-place P (p ∷ ps) (suc i) d low all = at-place P ps i d (omega (arith, low)) all.1

-- new passes have done nothing
pub new-idle : (n : ℕ) (f : ℕ → Actor) (ps : List PassView) → ArePasses n f ps → AllByRecursion (λ (p : PassView). p.log ≡ []) ps
new-idle n f ps are = all-by-place (λ (p : PassView). p.log ≡ []) ps (λ i d low. ap (λ (p : PassView). p.log) (are.1 i d (subst (λ (m : ℕ). i < m) are.0 low)))

-- the tokens of the actor at a place
pub has-own : (n : ℕ) (f : ℕ → Actor) (ps : List PassView) (front : PassView) (i : ℕ) → i < n → ArePasses n f ps → AllByRecursion (λ (p : PassView). HasTokens front p.keys) ps
    → IsOneOf (actor_key (f i)) front.keys × IsOneOf (word_key (Own (f i))) front.keys
has-own n f ps front i low are all =
    let has : HasTokens front (slice_index_or ps i front).keys = at-place (λ (p : PassView). HasTokens front p.keys) ps i front (subst (λ (m : ℕ). i < m) (sym are.0) low) all in
    let own : HasTokens front (own_keys (f i)) = subst (λ (p : PassView). HasTokens front p.keys) (are.1 i front low) has in
    (own (actor_key (f i)) (inr (inl refl)), own (word_key (Own (f i))) (inl refl))

-- a front that has those of the administrator, of all clients and of all rebuilders has those of all actors
pub holds-all : (clients rebuilders : List PassView) (front : PassView) → ArePasses 64 (λ (i : ℕ). Client (i + 1)) clients → ArePasses 16 (λ (i : ℕ). Rebuilder (i + 1)) rebuilders
    → HasTokens front (own_keys Admin) → AllByRecursion (λ (p : PassView). HasTokens front p.keys) clients → AllByRecursion (λ (p : PassView). HasTokens front p.keys) rebuilders → HoldsAll front.keys
holds-all clients rebuilders front cs rs admin hc hr (Client n) member =
    let back : n - 1 + 1 ≡ n = omega (arith, member.0) in
    subst (λ (k : ℕ). IsOneOf (actor_key (Client k)) front.keys × IsOneOf (word_key (Own (Client k))) front.keys) back (has-own 64 (λ (i : ℕ). Client (i + 1)) clients front (n - 1) (omega (arith, member.0, member.1)) cs hc)
holds-all clients rebuilders front cs rs admin hc hr (Rebuilder n) member =
    let back : n - 1 + 1 ≡ n = omega (arith, member.0) in
    subst (λ (k : ℕ). IsOneOf (actor_key (Rebuilder k)) front.keys × IsOneOf (word_key (Own (Rebuilder k))) front.keys) back (has-own 16 (λ (i : ℕ). Rebuilder (i + 1)) rebuilders front (n - 1) (omega (arith, member.0, member.1)) rs hr)
holds-all clients rebuilders front cs rs admin hc hr Admin member = (admin (actor_key Admin) (inr (inl refl)), admin (word_key (Own Admin)) (inl refl))

pub gathered-all : (admin : PassView) (clients rebuilders : List PassView) (mid front : PassView) → admin ≡ new_pass Admin → ArePasses 64 (λ (i : ℕ). Client (i + 1)) clients → ArePasses 16 (λ (i : ℕ). Rebuilder (i + 1)) rebuilders
    → HasGathered admin clients mid → HasGathered mid rebuilders front → HoldsAll front.keys
gathered-all admin clients rebuilders mid front new cs rs one two =
    let own : HasTokens front (own_keys Admin) = λ k is. two.own k (one.own k (subst (λ (p : PassView). IsOneOf k p.keys) (sym new) is)) in
    holds-all clients rebuilders front cs rs own (has-still clients mid front two.own one.theirs) two.theirs

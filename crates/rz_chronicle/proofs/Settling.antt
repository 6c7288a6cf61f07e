-- WordTokens that are given back one after another.
use Rattle.std.proofs.Common.{◌≡◌, ◌++◌, [], ◌∷◌, ℕ, List, map, sym, refl, ap, ◌∙◌, subst, inl, inr}
use Rattle.std.specs.List.{AllByRecursion, IsDistinct}
use Rattle.std.specs.Prelude.{nat_eq}
use Rattle.std.proofs.lemmas.List.{append_assoc}
use Rattle.rz_events.specs.declared.events.Event.{Event}
use Rattle.rz_chronicle.specs.Keys.{word_key, IsOneOf, IsLater}
use Rattle.rz_chronicle.specs.Kinds.{IsFit}
use Rattle.rz_chronicle.specs.Holds.{Stays, IsWordSettled}
use Rattle.rz_chronicle.specs.Rules.{PassView, WordTokenView}

abbrev pub word_token_keys : List WordTokenView → List ℕ
word_token_keys ps = map (λ (p : WordTokenView). word_key p.word) ps

-- the tokens that were given back, and what the front then knows
pub record Settled (kind : List ℕ) (old : PassView) (done : List WordTokenView) (new : PassView) : Type 0 where
  pub actor : new.actor ≡ old.actor
  pub keys : new.keys ≡ old.keys ++ word_token_keys done
  pub later : IsLater old.log new.log
  pub stays : Stays old.keys old.log new.log
  pub settles : AllByRecursion (λ (p : WordTokenView). IsWordSettled p new.log) done
  pub fit : IsFit kind new.log
  pub apart : IsDistinct nat_eq new.keys

-- the export's token and those of the nodes but for the rest
abbrev pub Settles : List ℕ → PassView → WordTokenView → List WordTokenView → List WordTokenView → PassView → Type 0
Settles kind old export all rest new = (done : List WordTokenView) × (all ≡ done ++ rest) × Settled kind old (export ∷ done) new

pub one-of-left : (k : ℕ) (xs ys : List ℕ) → IsOneOf k xs → IsOneOf k (xs ++ ys)
one-of-left k [] ys h = absurd h
one-of-left k (x ∷ xs) ys h = elim h [ inl e ↦ inl e | inr more ↦ inr (one-of-left k xs ys more) ]

pub one-of-right : (k : ℕ) (xs ys : List ℕ) → IsOneOf k ys → IsOneOf k (xs ++ ys)
one-of-right k [] ys h = h
one-of-right k (x ∷ xs) ys h = inr (one-of-right k xs ys h)

pub later-still : (a b c : List Event) → IsLater a b → IsLater b c → IsLater a c
later-still a b c p q = (q.0 ++ p.0, q.1 ∙ (ap (λ (l : List Event). q.0 ++ l) p.1 ∙ sym (append_assoc q.0 p.0 a)))

-- what was settled stays so
settled-still : (ps : List WordTokenView) (mid new : List Event) (ks : List ℕ) → ((p : ℕ) → IsOneOf p (word_token_keys ps) → IsOneOf p ks) → IsLater mid new → Stays ks mid new
    → AllByRecursion (λ (p : WordTokenView). IsWordSettled p mid) ps → AllByRecursion (λ (p : WordTokenView). IsWordSettled p new) ps
settled-still [] mid new ks among later stays all = tt
settled-still (p ∷ ps) mid new ks among later stays all = (
  (later-still p.log mid new all.0.0 later, λ k is. stays k (among k (elim is [ inl e ↦ inl e | inr more ↦ absurd more ])) ∙ all.0.1 k is),
  settled-still ps mid new ks (λ k is. among k (inr is)) later stays all.1,
)

all-more : (P : WordTokenView → Type 0) (xs : List WordTokenView) (y : WordTokenView) → AllByRecursion P xs → P y → AllByRecursion P (xs ++ y ∷ [])
all-more P [] y all here = (here, tt)
all-more P (x ∷ xs) y all here = (all.0, all-more P xs y all.1 here)

keys-more : (xs : List WordTokenView) (y : WordTokenView) → word_token_keys (xs ++ y ∷ []) ≡ word_token_keys xs ++ word_key y.word ∷ []
keys-more [] y = refl
keys-more (x ∷ xs) y = ap (λ (r : List ℕ). word_key x.word ∷ r) (keys-more xs y)

-- one more
pub settled-more : (kind : List ℕ) (old : PassView) (done : List WordTokenView) (mid : PassView) (p : WordTokenView) (new : PassView) → Settled kind old done mid
    → new.actor ≡ mid.actor → new.keys ≡ mid.keys ++ word_key p.word ∷ [] → IsLater mid.log new.log → Stays mid.keys mid.log new.log → IsWordSettled p new.log → IsFit kind new.log → IsDistinct nat_eq new.keys
    → Settled kind old (done ++ p ∷ []) new
settled-more kind old done mid p new s actor keys later stays settles fit apart = record {
  actor = actor ∙ s.actor;
  keys = keys ∙ (ap (λ (ks : List ℕ). ks ++ word_key p.word ∷ []) s.keys ∙ (append_assoc old.keys (word_token_keys done) (word_key p.word ∷ []) ∙ ap (λ (ks : List ℕ). old.keys ++ ks) (sym (keys-more done p))));
  later = later-still old.log mid.log new.log s.later later;
  stays = λ k is. stays k (subst (IsOneOf k) (sym s.keys) (one-of-left k old.keys (word_token_keys done) is)) ∙ s.stays k is;
  settles = all-more (λ (q : WordTokenView). IsWordSettled q new.log) done p
      (settled-still done mid.log new.log mid.keys (λ k is. subst (IsOneOf k) (sym s.keys) (one-of-right k old.keys (word_token_keys done) is)) later stays s.settles) settles;
  fit = fit;
  apart = apart;
}

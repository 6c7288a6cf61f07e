-- A store of which more records are asked.
use Rattle.std.proofs.Common.{ℕ, ◌≡◌, ◌∙◌, List, [], ◌∷◌, ◌++◌, refl, sym, subst, append_assoc}
use Rattle.rz_events.specs.Volume.{Volume}
use Rattle.rz_events.specs.declared.keys.Key.{Key}
use Rattle.rz_events.specs.declared.records.Held.{Held}
use Rattle.rz_events.specs.declared.events.Event.{Event}
use Rattle.rz_scrub_report.specs.Stores.{State, AreAsks, IsOnlyAsked, HasAsked}

asks-then : (xs ys : List Event) → AreAsks xs → AreAsks ys → AreAsks (xs ++ ys)
asks-then [] ys p q = q
asks-then (x ∷ xs) ys p q = (p.0, asks-then xs ys p.1 q)

module _ {S : Type 0} {is_open : S → Type 0} {described : S → Volume} {gives : S → ℕ → Key → Held → List ℕ → List ℕ → Type 0}
    {state : S → List Event → State} {counts : S → List Event → (ℕ → ℕ) → Type 0} {only_asked : S → S → Type 0} where
  goes-then : ((a b c : S) → only_asked a b → only_asked b c → only_asked a c) → (a b c : S) (xs ys : List Event) → IsOnlyAsked is_open described gives state counts only_asked a b xs → IsOnlyAsked is_open described gives state counts only_asked b c ys → IsOnlyAsked is_open described gives state counts only_asked a c (ys ++ xs)
  goes-then join a b c xs ys p q = record {
    ready = q.ready;
    described_is = q.described_is ∙ p.described_is;
    given = λ n key told before room h. p.given n key told before room (q.given n key told before room h);
    export_is = λ h. q.export_is h ∙ p.export_is h;
    counted = λ h first met. subst (λ (g : List Event). counts c g first) (sym (append_assoc ys xs h)) (q.counted (xs ++ h) first (p.counted h first met));
    asked = join a b c p.asked q.asked;
  }

  -- nothing was asked yet
  pub has-none : ((s : S) → only_asked s s) → (a : S) → is_open a → (T : State → State → Type 0) → ((w : State) → T w w) → HasAsked is_open described gives state counts only_asked a a T
  has-none itself a ready T told = record {
    later = [];
    asks = tt;
    onward = record {
      ready = ready;
      described_is = refl;
      given = λ n key told before room h. h;
      export_is = λ h. refl;
      counted = λ h first met. met;
      asked = itself a;
    };
    told = λ h. told (state a h);
  }

  -- and then more
  pub has-then : ((a b c : S) → only_asked a b → only_asked b c → only_asked a c) → (a b c : S) (P Q T : State → State → Type 0)
      → (p : HasAsked is_open described gives state counts only_asked a b P) → (q : HasAsked is_open described gives state counts only_asked b c Q) → ((h : List Event) (mid next : State) → mid ≡ state b (p.later ++ h) → P (state a h) mid → Q mid next → T (state a h) next) → HasAsked is_open described gives state counts only_asked a c T
  has-then join a b c P Q T p q to = record {
    later = q.later ++ p.later;
    asks = asks-then q.later p.later q.asks p.asks;
    onward = goes-then join a b c p.later q.later p.onward q.onward;
    told = λ h. subst (λ (g : List Event). T (state a h) (state c g)) (sym (append_assoc q.later p.later h))
        (to h (state b (p.later ++ h)) (state c (q.later ++ (p.later ++ h))) refl (p.told h) (q.told (p.later ++ h)));
  }

  -- one ask
  pub has-one : (a b : S) (x : Event) → AreAsks (x ∷ []) → IsOnlyAsked is_open described gives state counts only_asked a b (x ∷ []) → (T : State → State → Type 0) → ((h : List Event) → T (state a h) (state b (x ∷ h))) → HasAsked is_open described gives state counts only_asked a b T
  has-one a b x asks onward T told = record { later = x ∷ []; asks = asks; onward = onward; told = told }

  -- what else is told of the same asks
  pub has-so : (a b : S) (T U : State → State → Type 0) → (p : HasAsked is_open described gives state counts only_asked a b T)
      → ((h : List Event) → T (state a h) (state b (p.later ++ h)) → U (state a h) (state b (p.later ++ h))) → HasAsked is_open described gives state counts only_asked a b U
  has-so a b T U p to = record { later = p.later; asks = p.asks; onward = p.onward; told = λ h. to h (p.told h) }

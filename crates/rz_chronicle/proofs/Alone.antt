-- Nobody else adds an event where the tokens of all actors are held.
use Rattle.std.proofs.Common.{ℕ, suc, Bool, true, false, ◌≡◌, ◌≤◌, ◌==◌, ◌||◌, List, [], ◌∷◌, ◌++◌, length, cond, refl, ◌∙◌, ap, subst, arith}
use Rattle.std.specs.List.{filter}
use Rattle.std.proofs.lemmas.Bool.{eq-eqb}
use Rattle.rz_events.specs.declared.events.Event.{Event}
use Rattle.rz_events.specs.Events.{by_of, word_of}
use Rattle.rz_chronicle.specs.Keys.{actor_key, word_key, events_at, touches}
use Rattle.rz_chronicle.specs.Kinds.{HavePlaces}
use Rattle.rz_chronicle.specs.Holds.{HasAllActors, Stays}
use Rattle.rz_chronicle.specs.Laws.{IsAddedAlone}

at-least : (p : Event → Bool) (more old : List Event) → length (filter p old) ≤ length (filter p (more ++ old))
at-least p [] old = omega arith
at-least p (x ∷ more) old = go (p x) (at-least p more old)
  where
    go : (b : Bool) → length (filter p old) ≤ length (filter p (more ++ old)) → length (filter p old) ≤ length (cond b (x ∷ filter p (more ++ old)) (filter p (more ++ old)))
    go true l = omega (arith, l)
    go false l = omega (arith, l)

or-right : (a b : Bool) → b ≡ true → (a || b) ≡ true
or-right true b is = refl
or-right false b is = is

touches-own : (x : Event) → touches (actor_key (by_of x)) x ≡ true
touches-own x = or-right (word_key (word_of x) == actor_key (by_of x)) (actor_key (by_of x) == actor_key (by_of x)) (eq-eqb (actor_key (by_of x)) (actor_key (by_of x)) refl)

too-many : (a b c : ℕ) → a ≡ suc c → a ≡ b → b ≤ c → ⊥
too-many a b c one all low = omega (arith, one, all, low)

more-than : (k : ℕ) (x : Event) (more old : List Event) → touches k x ≡ true → events_at k (x ∷ more ++ old) ≡ events_at k old → ⊥
more-than k x more old touched same =
    too-many (length (cond (touches k x) (x ∷ filter (touches k) (more ++ old)) (filter (touches k) (more ++ old)))) (length (filter (touches k) old)) (length (filter (touches k) (more ++ old)))
    (ap (λ b. length (cond b (x ∷ filter (touches k) (more ++ old)) (filter (touches k) (more ++ old)))) touched)
    (ap (λ (l : List Event). length l) same)
    (at-least (touches k) more old)

none : (kind ks : List ℕ) (old more : List Event) → HasAllActors ks → HavePlaces kind (more ++ old) → Stays ks old (more ++ old) → more ++ old ≡ old
none kind ks old [] all places same = refl
none kind ks old (x ∷ more) all places same =
    absurd (more-than (actor_key (by_of x)) x more old (touches-own x) (same (actor_key (by_of x)) (all (by_of x) places.0.member)))

pub alone : IsAddedAlone
alone kind ks old new all places later same =
    later.1 ∙ none kind ks old later.0 all (subst (HavePlaces kind) later.1 places) (subst (Stays ks old) later.1 same)

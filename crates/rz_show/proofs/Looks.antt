-- The positions of an actor's file, which its own opens alone change.
use Rattle.std.proofs.Common.{◌≡◌, ℕ, Bool, true, false, not, cond, List, [], ◌∷◌, ◌++◌, Option, None, reverse, unwrap_or, refl, sym, ◌∙◌, ap, append-nil}
use Rattle.std.proofs.lemmas.List.{reverse-append}
use Rattle.std.specs.Prelude.{if◌then◌else◌}
use Rattle.std.specs.List.{AllByRecursion}
use Rattle.rz_events.specs.declared.keys.Actor.{Actor}
use Rattle.rz_events.specs.declared.keys.Actor.TheVariants.{Admin}
use Rattle.rz_events.specs.declared.tree.TreeCall.{TreeCall}
use Rattle.rz_events.specs.declared.tree.TreeCall.TheVariants as call
use Rattle.rz_events.specs.declared.tree.TreeReply.{TreeReply}
use Rattle.rz_events.specs.declared.tree.TreeReply.TheVariants as reply
use Rattle.rz_events.specs.declared.events.Event.{Event}
use Rattle.rz_events.specs.declared.events.Event.TheVariants as e
use Rattle.rz_events.specs.Events.{by_of, same_actor}
use Rattle.rz_show.specs.Opened.{places_opened, positions, positions_after}
use Rattle.rz_show.specs.Text.{line}
use Rattle.rz_show.specs.Shown.{is_open, is_shown, if_shown, shown_of}

-- An event that is not shown changes no positions, and has no line where it is none of the administrator's.

unopened : (c : TreeCall) (r : TreeReply) → is_open c r ≡ false → places_opened c r ≡ None
unopened (call.OpenFile path) (reply.File info) is = absurd (cc)
unopened (call.OpenFile path) (_) is = refl
unopened (_) r is = refl

either-way : (b : Bool) (n : ℕ) → (if b then n else n) ≡ n
either-way true n = refl
either-way false n = refl

pub unshown-looks : (x : Event) (a : Actor) (n : ℕ) → is_shown x ≡ false → positions_after x a n ≡ n
unshown-looks (e.Meta by c r) a n is = ap (λ (o : Option ℕ). if same_actor a by then unwrap_or o n else n) (unopened c r is) ∙ either-way (same_actor a by) n
unshown-looks (_) a n is = refl

part-only : (part : Bool) (words : List ℕ) → not part ≡ false → (if part then [] else words) ≡ []
part-only true words is = refl
part-only false words is = absurd (cc)

pub unshown-line : (x : Event) (n : ℕ) → is_shown x ≡ false → same_actor (by_of x) Admin ≡ false → line n x ≡ []
unfolding line
unshown-line (e.Got by number key part end) n is other = part-only part _ is
unshown-line (e.Gave by number key part end) n is other = part-only part _ is
unshown-line (e.Done by number answer) n is other = absurd (cc)
unshown-line (e.Start node took) n is other = absurd (cc)
unshown-line (e.Unopened node cause) n is other = absurd (cc)
unshown-line (_) n is other = refl

-- The shown events tell the positions as all of them do.

more-looks : (a : Actor) (x : Event) (own : List Event) → positions a (reverse (shown_of own)) ≡ positions a own → positions a (reverse (shown_of own ++ if_shown x)) ≡ positions_after x a (positions a own)
more-looks a x own before = go (is_shown x) refl
  where
    go : (b : Bool) → is_shown x ≡ b → positions a (reverse (shown_of own ++ cond b (x ∷ []) [])) ≡ positions_after x a (positions a own)
    go true is = ap (positions a) (reverse-append (shown_of own) (x ∷ [])) ∙ ap (positions_after x a) before
    go false is = ap (λ (xs : List Event). positions a (reverse xs)) (append-nil (shown_of own)) ∙ before ∙ sym (unshown-looks x a (positions a own) is)

pub shown-looks : (a : Actor) (own : List Event) → positions a (reverse (shown_of own)) ≡ positions a own
shown-looks a [] = refl
shown-looks a (x ∷ own) = more-looks a x own (shown-looks a own)

-- What stood before, where nothing was opened, changes nothing.
pub looks-onto : (a : Actor) (own before : List Event) → positions a before ≡ 0 → positions a (own ++ before) ≡ positions a own
looks-onto a [] before none = none
looks-onto a (x ∷ own) before none = ap (positions_after x a) (looks-onto a own before none)

-- The events of another actor change nothing.

other-looks : (x : Event) (a : Actor) (n : ℕ) → same_actor a (by_of x) ≡ false → positions_after x a n ≡ n
other-looks (e.Meta by c r) a n apart = ap (λ (b : Bool). if b then unwrap_or (places_opened c r) n else n) apart
other-looks (_) a n apart = refl

pub looks-past : (a other : Actor) (own before : List Event) → same_actor a other ≡ false → AllByRecursion (λ x. by_of x ≡ other) own → positions a (own ++ before) ≡ positions a before
looks-past a other [] before apart all = refl
looks-past a other (x ∷ own) before apart all =
    other-looks x a (positions a (own ++ before)) (ap (same_actor a) all.0 ∙ apart) ∙ looks-past a other own before apart all.1

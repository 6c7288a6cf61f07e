-- The lines of the shown events of all actors are those of all their events.
use Rattle.std.proofs.Common.{◌≡◌, ℕ, ◌+◌, ◌<◌, ◌≤◌, length, get_or, take, Bool, true, false, cond, List, [], ◌∷◌, ◌++◌, reverse, refl, sym, ◌∙◌, ap, append-nil, append_assoc}
use Rattle.std.proofs.lemmas.List.{flat_map_more, reverse-append, reverse-reverse, take_all, take_more}
use Rattle.std.proofs.lemmas.List.Folds.{flat_map-map}
use Rattle.std.specs.Global.{Vec}
use Rattle.std.specs.List.{AllByRecursion, flat_map}
use Rattle.rz_events.specs.declared.keys.Actor.{Actor}
use Rattle.rz_events.specs.declared.keys.Actor.TheVariants.{Admin}
use Rattle.rz_events.specs.declared.events.Event.{Event}
use Rattle.rz_events.specs.Events.{by_of, same_actor}
use Rattle.rz_core.specs.History.{of_actor}
use Rattle.rz_play.specs.World.{actors}
use Rattle.rz_show.specs.Opened.{positions}
use Rattle.rz_show.specs.Text.{line, lines}
use Rattle.rz_show.specs.Shown.{is_shown, if_shown, shown_of}
use Rattle.rz_show.specs.RunText.{in_run_order, AreShownOf}
use Rattle.rz_show.proofs.Looks.{unshown-line, shown-looks, looks-onto, looks-past}
use Rattle.rz_show.proofs.Apart.{AreApart, actors-apart, own-by}

lines-append : (before xs ys : List Event) → lines before (xs ++ ys) ≡ lines before xs ++ lines (reverse xs ++ before) ys
lines-append before [] ys = refl
lines-append before (x ∷ xs) ys =
    let here : List ℕ = line (positions (by_of x) before) x in
    let turned : reverse (x ∷ xs) ++ before ≡ reverse xs ++ (x ∷ before) =
    ap (λ (zs : List Event). zs ++ before) (reverse-append (x ∷ []) xs) ∙ append_assoc (reverse xs) (x ∷ []) before in
    ap (λ (t : List ℕ). here ++ t) (lines-append (x ∷ before) xs ys)
    ∙ sym (append_assoc here (lines (x ∷ before) xs) (lines (reverse xs ++ (x ∷ before)) ys))
    ∙ ap (λ (zs : List Event). (here ++ lines (x ∷ before) xs) ++ lines zs ys) (sym turned)

-- one more event of an actor, of whose events some are shown
one-more : (x : Event) (own before : List Event) → same_actor (by_of x) Admin ≡ false → positions (by_of x) before ≡ 0
    → lines (own ++ before) (x ∷ []) ≡ lines (reverse (shown_of own) ++ []) (if_shown x)
one-more x own before other none = go (is_shown x) refl
  where
    here : positions (by_of x) (own ++ before) ≡ positions (by_of x) (reverse (shown_of own) ++ [])
    here =
        looks-onto (by_of x) own before none ∙ sym (shown-looks (by_of x) own)
        ∙ ap (positions (by_of x)) (sym (append-nil (reverse (shown_of own))))

    go : (b : Bool) → is_shown x ≡ b → lines (own ++ before) (x ∷ []) ≡ lines (reverse (shown_of own) ++ []) (cond b (x ∷ []) [])
    go true is = ap (λ (n : ℕ). line n x ++ []) here
    go false is = append-nil (line (positions (by_of x) (own ++ before)) x) ∙ unshown-line x (positions (by_of x) (own ++ before)) is other

-- an actor's own events
own-lines : (a : Actor) (own before : List Event) → same_actor a Admin ≡ false → positions a before ≡ 0 → AllByRecursion (λ x. by_of x ≡ a) own
    → lines before (reverse own) ≡ lines [] (shown_of own)
own-lines a [] before other none all = refl
own-lines a (x ∷ own) before other none all =
    let others : same_actor (by_of x) Admin ≡ false = ap (λ (b : Actor). same_actor b Admin) all.0 ∙ other in
    let nones : positions (by_of x) before ≡ 0 = ap (λ (b : Actor). positions b before) all.0 ∙ none in
    ap (lines before) (reverse-append (x ∷ []) own)
    ∙ lines-append before (reverse own) (x ∷ [])
    ∙ ap (λ (t : List ℕ). t ++ lines (reverse (reverse own) ++ before) (x ∷ [])) (own-lines a own before other none all.1)
    ∙ ap (λ (zs : List Event). lines [] (shown_of own) ++ lines (zs ++ before) (x ∷ [])) (reverse-reverse own)
    ∙ ap (λ (t : List ℕ). lines [] (shown_of own) ++ t) (one-more x own before others nones)
    ∙ sym (lines-append [] (shown_of own) (if_shown x))

module _ (history : List Event) where
  -- the actors after one have opened nothing, as before
  none-yet : (a : Actor) (more : List Actor) (before : List Event) → AllByRecursion (λ b. same_actor b a ≡ false) more → AllByRecursion (λ b. positions b before ≡ 0) more
      → AllByRecursion (λ b. positions b (of_actor a history ++ before) ≡ 0) more
  none-yet a [] before apart none = tt
  none-yet a (b ∷ more) before apart none =
      (looks-past b a (of_actor a history) before apart.0 (own-by a history) ∙ none.0, none-yet a more before apart.1 none.1)

  all-lines : (some : List Actor) (before : List Event) → AreApart some → AllByRecursion (λ a. positions a before ≡ 0) some
      → lines before (flat_map (λ a. reverse (of_actor a history)) some) ≡ flat_map (λ a. lines [] (shown_of (of_actor a history))) some
  all-lines [] before apart none = refl
  all-lines (a ∷ more) before apart none =
      let own = of_actor a history in
      let rest = flat_map (λ (b : Actor). reverse (of_actor b history)) more in
      let text = lines [] (shown_of own) in
      lines-append before (reverse own) rest
      ∙ ap (λ (t : List ℕ). t ++ lines (reverse (reverse own) ++ before) rest) (own-lines a own before apart.0 none.0 (own-by a history))
      ∙ ap (λ (zs : List Event). text ++ lines (zs ++ before) rest) (reverse-reverse own)
      ∙ ap (λ (t : List ℕ). text ++ t) (all-lines more (own ++ before) apart.2 (none-yet a more before apart.1 none.1))

nothing-opened : (some : List Actor) → AllByRecursion (λ a. positions a [] ≡ 0) some
nothing-opened [] = tt
nothing-opened (a ∷ some) = (refl, nothing-opened some)

-- the lines of the shown events, one actor after the other
run-lines : (shown : List (Vec Event)) (history : List Event) → AreShownOf shown history → flat_map (λ (s : Vec Event). lines [] s.items) shown ≡ lines [] (in_run_order history)
unfolding in_run_order
run-lines shown history are =
    sym (flat_map-map (lines []) (λ (s : Vec Event). s.items) shown)
    ∙ ap (flat_map (lines [])) are
    ∙ flat_map-map (lines []) (λ (a : Actor). shown_of (of_actor a history)) actors
    ∙ sym (all-lines history actors [] actors-apart (nothing-opened actors))

-- the lines of one more actor
pub more-lines : (shown : List (Vec Event)) (i : ℕ) (own : Vec Event) (out : List ℕ) → i < length shown → own ≡ get_or shown i own → out ≡ flat_map (λ (s : Vec Event). lines [] s.items) (take i shown)
    → out ++ lines [] own.items ≡ flat_map (λ (s : Vec Event). lines [] s.items) (take (i + 1) shown)
more-lines shown i own out low is before =
    ap (λ (t : List ℕ). t ++ lines [] own.items) before
    ∙ flat_map_more (λ (s : Vec Event). lines [] s.items) [] (take i shown) own
    ∙ ap (flat_map (λ (s : Vec Event). lines [] s.items)) (ap (λ (s : Vec Event). take i shown ++ s ∷ []) is ∙ sym (take_more shown i own low))

pub all-printed : (shown : List (Vec Event)) (history : List Event) (i : ℕ) (out : List ℕ) → length shown ≤ i → out ≡ flat_map (λ (s : Vec Event). lines [] s.items) (take i shown) → AreShownOf shown history
    → out ≡ lines [] (in_run_order history)
all-printed shown history i out past before are = before ∙ ap (flat_map (λ (s : Vec Event). lines [] s.items)) (take_all i shown past) ∙ run-lines shown history are

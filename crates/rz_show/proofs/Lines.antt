-- One more event of a log is printed.
use Rattle.std.proofs.Common.{ℕ, ◌≡◌, ◌+◌, ◌<◌, List, [], ◌∷◌, ◌++◌, length, get_or, take, drop, reverse, sym, ap, ◌∙◌, append_assoc}
use Rattle.std.proofs.lemmas.List.{take_more, drop_more, reverse-append}
use Rattle.rz_events.specs.declared.events.Event.{Event}
use Rattle.rz_events.specs.Events.{by_of}
use Rattle.rz_show.specs.declared.opened.Opened.{Opened}
use Rattle.rz_show.specs.Opened.{positions, positions_after}
use Rattle.rz_show.specs.Known.{Knows, NotesPositions}
use Rattle.rz_show.specs.Text.{line, lines}

front-more : (log : List Event) (i : ℕ) (x : Event) → i < length log → x ≡ get_or log i x → reverse (take (i + 1) log) ≡ x ∷ reverse (take i log)
front-more log i x l e =
    ap reverse (take_more log i x l ∙ ap (λ (y : Event). take i log ++ y ∷ []) (sym e)) ∙ reverse-append (take i log) (x ∷ [])

rest-more : (log : List Event) (i : ℕ) (x : Event) → i < length log → x ≡ get_or log i x → drop i log ≡ x ∷ drop (i + 1) log
rest-more log i x l e = drop_more log i x l ∙ ap (λ (y : Event). y ∷ drop (i + 1) log) (sym e)

pub knows-more : (old new : Opened) (log : List Event) (i : ℕ) (x : Event) → i < length log → x ≡ get_or log i x
    → Knows old (reverse (take i log)) → NotesPositions old new x → Knows new (reverse (take (i + 1) log))
knows-more old new log i x l e before note = λ actor.
    note actor ∙ ap (positions_after x actor) (before actor) ∙ sym (ap (positions actor) (front-more log i x l e))

pub printed-more : (log : List Event) (i : ℕ) (x : Event) (out new : List ℕ) → i < length log → x ≡ get_or log i x
    → out ++ lines (reverse (take i log)) (drop i log) ≡ lines [] log
    → new ≡ out ++ line (positions (by_of x) (reverse (take i log))) x
    → new ++ lines (reverse (take (i + 1) log)) (drop (i + 1) log) ≡ lines [] log
printed-more log i x out new l e before pushed =
    let front = reverse (take i log) in
    let rest = drop (i + 1) log in
    ap (λ (ys : List ℕ). ys ++ lines (reverse (take (i + 1) log)) rest) pushed
    ∙ ap (λ (h : List Event). (out ++ line (positions (by_of x) front) x) ++ lines h rest) (front-more log i x l e)
    ∙ append_assoc out (line (positions (by_of x) front) x) (lines (x ∷ front) rest)
    ∙ ap (λ (xs : List Event). out ++ lines front xs) (sym (rest-more log i x l e))
    ∙ before

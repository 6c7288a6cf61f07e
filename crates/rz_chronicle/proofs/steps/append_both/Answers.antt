use Rattle.std.proofs.Common.{◌≡◌, ◌<◌, [], ◌∷◌, ℕ, List, sym, ◌∙◌, ap, subst, inl, inr}
use Rattle.rz_events.specs.declared.events.Event.{Event}
use Rattle.rz_events.specs.Events.{word_of}
use Rattle.rz_chronicle.specs.Keys.{rows, word_key}
use Rattle.rz_chronicle.specs.Kinds.{HasPlace, MayFit, history}
use Rattle.rz_chronicle.specs.Tokens.{at, counts, AllInRow, Covers, EndsOnEvent, HasCount}
use Rattle.rz_chronicle.proofs.Joint.{joined, all-right, first-count, first-without, first-held, moved-by-one, both-commit}
use Rattle.rz_chronicle.proofs.steps.append_both.Goals as goal

pub append-tokens-requires-clause-held : goal.append-tokens-requires-clause-held
append-tokens-requires-clause-held g c =
    let x = g.N.Asks.event c.args.about.now in
    let e : c.join.result.held ≡ (c.args.key, c.args.moved) ∷ c.args.mine.held = joined c.args.key c.args.moved c.args.mine.held c.args.its.held c.join.result.held c.requires.its.0 c.join.ensures.3 in
    let log : c.join.result.log ≡ c.args.mine.log = c.join.ensures.4 ∙ c.requires.its.1 in
    let right = all-right c.args.key c.args.moved c.args.mine.log c.args.mine.held c.args.its.held c.join.result.held c.requires.its.0 c.join.ensures.3 c.requires.its.2 c.requires.mine.0.right in
    let key : word_key (word_of x) ≡ c.args.key = c.requires.word.2 in
    let low : AllInRow ((c.args.key, c.args.moved) ∷ c.args.mine.held) = (subst (λ (k : ℕ). k < rows) key c.requires.word.3, c.requires.mine.0.low) in
    let covers : Covers ((c.args.key, c.args.moved) ∷ c.args.mine.held) x = (inl key, inr c.requires.mine.1) in (
      record {
        right = subst (λ (l : List Event). c.join.result.held ≡ at (counts l) c.join.result.held) (sym log) right;
        low = subst AllInRow (sym e) low;
      },
      subst (λ (h : List (ℕ × ℕ)). Covers h x) (sym e) covers,
    )

pub append-tokens-requires-clause-legal : goal.append-tokens-requires-clause-legal
append-tokens-requires-clause-legal g c =
    let x = g.N.Asks.event c.args.about.now in
    let log : c.join.result.log ≡ c.args.mine.log = c.join.ensures.4 ∙ c.requires.its.1 in
    subst (λ (k : List ℕ). MayFit k (history c.join.result.log) x) (sym (c.join.ensures.2 ∙ c.requires.one.kind))
    (subst (λ (l : List Event). MayFit c.args.mine.kind (history l) x) (sym log) c.requires.legal)

pub append-tokens-requires-clause-place : goal.append-tokens-requires-clause-place
append-tokens-requires-clause-place g c =
    let x = g.N.Asks.event c.args.about.now in
    subst (λ (k : List ℕ). HasPlace k x) (sym (c.join.ensures.2 ∙ c.requires.one.kind)) c.requires.place

pub append-tokens-requires-clause-count : goal.append-tokens-requires-clause-count
append-tokens-requires-clause-count g c =
    let x = g.N.Asks.event c.args.about.now in
    let e : c.join.result.held ≡ (c.args.key, c.args.moved) ∷ c.args.mine.held = joined c.args.key c.args.moved c.args.mine.held c.args.its.held c.join.result.held c.requires.its.0 c.join.ensures.3 in
    let has : HasCount ((c.args.key, c.args.moved) ∷ c.args.mine.held) (word_key (word_of x)) c.args.moved = inl (ap (λ (k : ℕ). (k, c.args.moved)) (sym c.requires.word.2)) in
    subst (λ (h : List (ℕ × ℕ)). HasCount h (word_key (word_of x)) c.args.moved) (sym e) has

pub parted-requires : goal.parted-requires
parted-requires g c =
    let e : c.join.result.held ≡ (c.args.key, c.args.moved) ∷ c.args.mine.held = joined c.args.key c.args.moved c.args.mine.held c.args.its.held c.join.result.held c.requires.its.0 c.join.ensures.3 in
    first-held (counts c.append-tokens.new.seen.log) c.args.key c.args.moved c.args.mine.held c.append-tokens.result.held (c.append-tokens.ensures.held.0 ∙ ap (at (counts c.append-tokens.new.seen.log)) e)

pub returns-clause-mine : goal.returns-clause-mine
returns-clause-mine g c =
    let e : c.join.result.held ≡ (c.args.key, c.args.moved) ∷ c.args.mine.held = joined c.args.key c.args.moved c.args.mine.held c.args.its.held c.join.result.held c.requires.its.0 c.join.ensures.3 in
    let new = c.append-tokens.new.seen.log in let held = c.append-tokens.ensures.held.0 ∙ ap (at (counts new)) e in
    (c.parted.ensures.9 ∙ first-without (counts new) c.args.key c.args.moved c.args.mine.held c.append-tokens.result.held held, c.parted.ensures.7 ∙ c.append-tokens.ensures.held.1)

pub returns-clause-its : goal.returns-clause-its
returns-clause-its g c =
    let x = g.N.Asks.event c.args.about.now in
    let e : c.join.result.held ≡ (c.args.key, c.args.moved) ∷ c.args.mine.held = joined c.args.key c.args.moved c.args.mine.held c.args.its.held c.join.result.held c.requires.its.0 c.join.ensures.3 in
    let new = c.append-tokens.new.seen.log in let held = c.append-tokens.ensures.held.0 ∙ ap (at (counts new)) e in
    let n = first-count (counts new) c.args.key c.args.moved c.args.mine.held c.append-tokens.result.held held
    ∙ moved-by-one c.args.key c.args.moved c.args.mine.held c.join.result.held x c.args.seen.now.log new e c.requires.word.2 c.append-tokens.ensures.ends in
    (c.parted.ensures.8 ∙ ap (λ (m : ℕ). (c.args.key, m) ∷ []) n, c.parted.ensures.3 ∙ c.append-tokens.ensures.held.1)

pub returns-clause-count : goal.returns-clause-count
returns-clause-count g c =
    let x = g.N.Asks.event c.args.about.now in
    let e : c.join.result.held ≡ (c.args.key, c.args.moved) ∷ c.args.mine.held = joined c.args.key c.args.moved c.args.mine.held c.args.its.held c.join.result.held c.requires.its.0 c.join.ensures.3 in
    moved-by-one c.args.key c.args.moved c.args.mine.held c.join.result.held x c.args.seen.now.log c.append-tokens.new.seen.log e c.requires.word.2 c.append-tokens.ensures.ends

pub returns-clause-commits : goal.returns-clause-commits
returns-clause-commits g c =
    let x = g.N.Asks.event c.args.about.now in
    let e : c.join.result.held ≡ (c.args.key, c.args.moved) ∷ c.args.mine.held = joined c.args.key c.args.moved c.args.mine.held c.args.its.held c.join.result.held c.requires.its.0 c.join.ensures.3 in
    let right = all-right c.args.key c.args.moved c.args.mine.log c.args.mine.held c.args.its.held c.join.result.held c.requires.its.0 c.join.ensures.3 c.requires.its.2 c.requires.mine.0.right in
    let new = c.append-tokens.new.seen.log in
    let ends : EndsOnEvent c.join.result.held c.args.mine.log x new = subst (λ (l : List Event). EndsOnEvent c.join.result.held l x new) (sym c.requires.mine.2) c.append-tokens.ensures.ends in
    both-commit c.args.key c.args.moved c.args.mine.held c.join.result.held x c.args.mine.log new e right ends

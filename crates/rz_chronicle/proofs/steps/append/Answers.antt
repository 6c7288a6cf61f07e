use Rattle.std.proofs.Common.{◌≡◌, ◌==◌, ◌∙◌, sym, ap, subst, ℕ, [], ◌∷◌, ◌++◌, MatchBool}
use Rattle.rz_events.specs.declared.events.Event.{Event}
use Rattle.rz_chronicle.specs.declared.told.Told.{Told}
use Rattle.rz_chronicle.specs.Tokens.{Agree, HasCount, counts, notes}
use Rattle.rz_chronicle.proofs.Back.{one-state, held-back, agree-back, won}
use Rattle.rz_chronicle.proofs.Adding.{adds_moves}
use Rattle.rz_chronicle.proofs.Histories.{follows}
use Rattle.rz_chronicle.proofs.steps.append.Goals as goal

pub offer-offer-requires : goal.offer-offer-requires
offer-offer-requires g c =
    (c.requires.held.0.low, c.requires.held.1, follows c.local.ensures c.local_after.ensures c.args.tokens.kind c.args.tokens.held c.args.tokens.log (g.N.Asks.event c.args.about.now) c.requires.held.0.right c.requires.held.1 c.requires.legal, c.requires.place)

pub compare_exchange-found-requires : goal.compare_exchange-found-requires
compare_exchange-found-requires g c =
    let offer = c.offer-offer.ensures in
    let pen = c.no_pen-pen.ensures in (
      c.requires.word.0,
      c.requires.book,
      pen.0 ∙ c.requires.book,
      offer.0 ∙ sym c.requires.names,
      rw (pen.1, offer.1, offer.3) (adds_moves c.args.seen.now.log (g.N.Asks.event c.args.about.now) c.args.moved c.requires.word.2 c.args.word.now.key c.requires.word.1),
    )

pub back-requires : goal.back-requires
back-requires g c =
    ((c.args.tokens.counters, (c.args.tokens.copy, c.args.tokens.kind)), c.into_gain.ensures.0 ∙ (c.compare_exchange-found.ensures.2 ∙ c.offer-offer.ensures.0))

pub returns-clause-held : goal.returns-clause-held
returns-clause-held g c =
    let t = c.compare_exchange-found.ensures.7 in
    let same : t.0 ≡ c.into_gain.result.answer = one-state c.compare_exchange-found.new.offer.state t.0 c.into_gain.result.answer t.1.0 c.into_gain.ensures.2 in
    let log : c.into_gain.result.answer.log ≡ c.compare_exchange-found.new.seen.log = sym (ap (λ (a : Told). a.log) same) ∙ t.1.1 in
    let about : c.into_gain.result.about ≡ notes c.args.tokens.held = c.into_gain.ensures.1 ∙ (c.compare_exchange-found.ensures.4 ∙ c.offer-offer.ensures.2) in
    (held-back c.args.tokens.held c.into_gain.result.about c.into_gain.result.answer.log c.compare_exchange-found.new.seen.log c.back.result.held about log c.back.ensures.1, c.back.ensures.2 ∙ log)

pub returns-clause-ends : goal.returns-clause-ends
returns-clause-ends g c =
    let t = c.compare_exchange-found.ensures.7 in
    let same : t.0 ≡ c.into_gain.result.answer = one-state c.compare_exchange-found.new.offer.state t.0 c.into_gain.result.answer t.1.0 c.into_gain.ensures.2 in
    let about : c.into_gain.result.about ≡ notes c.args.tokens.held = c.into_gain.ensures.1 ∙ (c.compare_exchange-found.ensures.4 ∙ c.offer-offer.ensures.2) in
    let agree : Agree (counts t.0.before) c.args.tokens.held =
    agree-back c.args.tokens.held c.into_gain.result.about c.into_gain.result.answer.before t.0.before about (sym (ap (λ (a : Told). a.before) same)) c.back.ensures.3 in
    let has : HasCount c.args.tokens.held c.args.word.now.key c.args.moved = subst (λ (k : ℕ). HasCount c.args.tokens.held k c.args.moved) (sym c.requires.word.1) c.requires.count in
    let last = won c.args.tokens.held c.args.word.now.key c.args.moved c.compare_exchange-found.result t.0.before c.compare_exchange-found.new.seen.log (g.N.Asks.event c.args.about.now) has agree t.1.3
    (subst (λ (x : Event). MatchBool (c.compare_exchange-found.result == c.args.moved) (c.compare_exchange-found.new.seen.log ≡ t.0.before ++ x ∷ []) (c.compare_exchange-found.new.seen.log ≡ t.0.before)) c.offer-offer.ensures.1 t.1.4) in
    (t.0.before, t.1.2, agree, last)

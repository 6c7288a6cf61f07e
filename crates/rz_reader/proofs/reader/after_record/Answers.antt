use Rattle.std.proofs.Common.{rules, arith, ◌≡◌, ◌≤◌, ◌<◌, ◌+◌, ◌-◌, ℕ, List, Some, length, take, ap, ◌∙◌, sym, refl, subst, true, false, w32, to_z, of_z, ◌++◌, ◌∷◌, []}
use Rattle.std.specs.Prelude.{IsOk}
use Rattle.std.proofs.lemmas.Int.{to_z-of_z}
use Rattle.mj_angles.specs.Layout.{safe_of, inverse_of, cols_of, block_bytes_of, bins_at_of, angle_of}
use Rattle.rz_words.specs.Grid.{Grid}
use Rattle.mj_inverse.specs.Fits.{Pair, Search, IsFound, with_pair}
use Rattle.rz_client_model.specs.declared.reading.Fetches.{Fetches}
use Rattle.rz_client_model.specs.declared.reading.ReadStage.{ReadStage}
use Rattle.rz_client_model.specs.Read.{next_position, with_record, unless_enough}
use Rattle.rz_reader.specs.Machine.{pairs_with, pair_of, search_of, IsOnly, AreFitting}
use Rattle.rz_reader.specs.Inside.{IsFetching, IsStage}
use Rattle.rz_reader.proofs.Records.{other-angle, record-more, search-more, enough, fits-all, fits-none}
use Rattle.rz_reader.proofs.reader.after_record.Goals as goal
use Rattle.rz_reader.proofs.reader.after_record.Goals.{After-add}

pub add-requires-clause-other_angle : goal.add-requires-clause-other_angle
add-requires-clause-other_angle c =
    other-angle c.args.layout c.args.fetched.fetches.left c.next_position-position.result c.angle.result _ c.args.work.now.pairs
    c.next_position-position.ensures.left c.angle.ensures.distinct (to_z-of_z w32 c.angle.result (search rules)) c.requires.fetching.asked

searched : (c : After-add) → c.add.new.self ≡ search_of c.args.layout (pairs_with c.args.layout c.args.work.now.pairs c.args.fetched c.args.bins.now)
searched c =
    let position = c.next_position-position.ensures.value in
    c.add.ensures ∙ search-more c.args.layout c.args.work.now _ (next_position c.args.fetched.fetches) c.args.bins.now _
    c.requires.work_rows c.requires.work_cols
    (to_z-of_z w32 c.angle.result (search rules) ∙ c.angle.ensures.value ∙ ap (angle_of c.args.layout) position)
    (ap (λ n. take n c.args.bins.now) (c.bins_at.ensures.value ∙ ap (bins_at_of c.args.layout) position))

pub returns-then-fetches-inverse-clause-stage : goal.returns-then-fetches-inverse-clause-stage
returns-then-fetches-inverse-clause-stage c =
    let layout = c.args.layout in
    let t = c.args.fetched.fetches in
    let added = searched (goal.at.returns-then-fetches-inverse-clause-stage c).After-add in
    let counted : c.with_record-fetches.result.given ≡ t.given + 1 = ap (λ (r : Fetches). r.given) c.with_record-fetches.ensures.value in
    let more = record-more layout c.args.work.now.pairs t c.args.fetched.length (pair_of layout (next_position t) c.args.bins.now) c.requires.fetching
    c.with_record-fetches.ensures.left c.with_record-fetches.ensures.within c.requires.short
    (omega (arith, counted, c.inverse.ensures.value, c.if-fetches-inverse.true)) refl in
    subst (λ (s : Search). IsFetching layout s.pairs c.with_record-fetches.result) (sym added)
    (subst (λ (r : Fetches). IsFetching layout (pairs_with layout c.args.work.now.pairs c.args.fetched c.args.bins.now) r)
    (sym c.with_record-fetches.ensures.value) more)

pub returns-in-Ok-clause-state : goal.returns-in-Ok-clause-state
returns-in-Ok-clause-state c =
    let layout = c.args.layout in
    let pairs = pairs_with layout c.args.work.now.pairs c.args.fetched c.args.bins.now in
    let added = searched (goal.at.returns-in-Ok-clause-state c).After-add in
    let fits : IsFound c.add.new.self c.solve.new.out = c.in-Ok.ensures.found in (
      true,
      fits-all layout pairs c.solve.new.out (subst (λ (s : Search). IsFound s c.solve.new.out) added fits),
      enough layout true c.with_record-fetches.result (omega (arith, c.inverse.ensures.value, c.if-fetches-inverse.false))
          ∙ ap (unless_enough layout true) c.with_record-fetches.ensures.value,
    )

pub returns-in-Ok-clause-block : goal.returns-in-Ok-clause-block
returns-in-Ok-clause-block c =
    let added = searched (goal.at.returns-in-Ok-clause-block c).After-add in
    let fits : IsFound c.add.new.self c.solve.new.out = c.in-Ok.ensures.found in
    record {
      found = subst (λ (s : Search). IsFound s c.solve.new.out) added fits;
      alone = λ other h. c.in-Ok.ensures.only other (subst (λ (s : Search). IsFound s other) (sym added) h);
    }

pub returns-in-Err-clause-state : goal.returns-in-Err-clause-state
returns-in-Err-clause-state c =
    let layout = c.args.layout in
    let pairs = pairs_with layout c.args.work.now.pairs c.args.fetched c.args.bins.now in
    let added = searched (goal.at.returns-in-Err-clause-state c).After-add in (
      false,
      fits-none layout pairs (λ some. (let e : false ≡ true = c.in-Err.ensures.exact.1 (some.0, subst (λ (s : Search). IsFound s some.0) (sym added) some.1) in cc)),
      enough layout false c.with_record-fetches.result (omega (arith, c.inverse.ensures.value, c.if-fetches-inverse.false))
          ∙ ap (unless_enough layout false) c.with_record-fetches.ensures.value,
    )

-- What an answer makes of a reader.
use Rattle.std.proofs.Common.{◌≡◌, ℕ, Bool, true, false, cond, List, Option, Some, None, eqb, ap, ◌∙◌, sym, refl, subst}
use Rattle.mj_angles.specs.declared.layout.Layout.{Layout}
use Rattle.rz_words.specs.Grid.{Grid}
use Rattle.mj_inverse.specs.Fits.{Pair, Search}
use Rattle.rz_events.specs.declared.files.Published.{Published}
use Rattle.rz_events.specs.declared.ends.ReadMark.{ReadMark}
use Rattle.rz_events.specs.declared.ends.ReadMark.TheVariants as mark
use Rattle.rz_events.specs.declared.ends.Seen.TheVariants as seen
use Rattle.rz_events.specs.declared.nodes.FetchAnswer.{FetchAnswer}
use Rattle.rz_events.specs.declared.nodes.FetchAnswer.TheVariants as fetch
use Rattle.rz_events.specs.declared.records.Held.{Held}
use Rattle.rz_events.specs.declared.machines.ReaderAnswer.{ReaderAnswer}
use Rattle.rz_events.specs.declared.machines.ReaderAnswer.TheVariants as told
use Rattle.rz_client_model.specs.declared.reading.ReaderState.{ReaderState}
use Rattle.rz_client_model.specs.declared.reading.ReadStage.{ReadStage}
use Rattle.rz_client_model.specs.declared.reading.ReadStage.TheVariants.{Looking, Fetching, Ended}
use Rattle.rz_client_model.specs.declared.reading.Fetches.{Fetches}
use Rattle.rz_client_model.specs.Read.{after_answer, after_recheck, ask_at, IsReaderAnswer, unless_enough, with_record, with_seen, reader_told}
use Rattle.rz_events.specs.Masks.{stamp_told}
use Rattle.rz_reader.specs.declared.steps.Record.{Record}
use Rattle.rz_reader.specs.Fetched.{record_in}
use Rattle.rz_reader.specs.Machine.{Machine, pairs_at, block_at, pairs_with, pairs_if, pairs_after, AreFitting, IsStageAfter, IsStateAfter, IsBlockOf}
use Rattle.rz_reader.specs.Inside.{machine_of}

-- the pairs after a record
pairs-record : (layout : Layout) (stage : ReadStage) (answer : ReaderAnswer) (pairs : List Pair) (bins : List ℕ) (r : Record) →
    record_in stage answer ≡ Some r → pairs_if layout (pairs_at stage pairs) (record_in stage answer) bins ≡ pairs_with layout pairs r bins
pairs-record layout Looking answer pairs bins r h = cc
pairs-record layout (Fetching t) answer pairs bins r h = ap (λ o. pairs_if layout pairs o bins) h
pairs-record layout (Ended e) answer pairs bins r h = cc

held-record : (layout : Layout) (fits : Bool) (t : Fetches) (held : Held) (r : Record) (b : Bool) →
    cond b (Some (let x : Record = record { fetches = t; length = held.length } in x)) None ≡ Some r →
    cond b (unless_enough layout fits (with_record t held.length)) (Fetching (with_seen t seen.Held)) ≡ unless_enough layout fits (with_record r.fetches r.length)
held-record layout fits t held r true h =
    let same : (let x : Record = record { fetches = t; length = held.length } in x) ≡ r = cc in
    ap (λ (x : Record). unless_enough layout fits (with_record x.fetches x.length)) same
held-record layout fits t held r false h = cc

-- the stage after a record
stage-record : (layout : Layout) (fits : Bool) (stage : ReadStage) (answer : ReaderAnswer) (r : Record) → record_in stage answer ≡ Some r →
    after_answer layout fits stage answer ≡ unless_enough layout fits (with_record r.fetches r.length)
stage-record layout fits Looking answer r h = cc
stage-record layout fits (Ended e) answer r h = cc
stage-record layout fits (Fetching t) (told.Looked p) r h = cc
stage-record layout fits (Fetching t) (told.Denied denial) r h = cc
stage-record layout fits (Fetching t) told.Missed r h = cc
stage-record layout fits (Fetching t) (told.Fetched fetch.Nothing) r h = cc
stage-record layout fits (Fetching t) (told.Fetched fetch.Lost) r h = cc
stage-record layout fits (Fetching t) (told.Fetched fetch.Down) r h = cc
stage-record layout fits (Fetching t) (told.Fetched fetch.DiskFault) r h = cc
stage-record layout fits (Fetching t) (told.Fetched (fetch.Held held)) r h = held-record layout fits t held r (eqb held.stamp t.stamp) h

pub told-record : (state : ReaderState) (search : Search) (block : Grid) (m : Machine) (answer : ReaderAnswer) (bins : List ℕ) (r : Record) (stage : ReadStage) →
    machine_of state search block ≡ m → record_in state.stage answer ≡ Some r →
    IsStageAfter state.layout (pairs_with state.layout search.pairs r bins) r stage →
    IsStateAfter m answer bins (record state { stage = stage })
told-record state search block m answer bins r stage view is after =
    subst (λ (x : Machine). IsStateAfter x answer bins (record state { stage = stage })) view (
      after.0,
      subst (λ (pairs : List Pair). AreFitting state.layout pairs after.0) (sym (pairs-record state.layout state.stage answer search.pairs bins r is)) after.1,
      ap (λ (s : ReadStage). (let x : ReaderState = record state { stage = s } in x)) (after.2 ∙ sym (stage-record state.layout after.0 state.stage answer r is)),
    )

-- an answer that is no record finds no block
recheck-block : (layout : Layout) (pairs : List Pair) (g : Grid) (b : Bool) (few moved : ReadMark) → (few' : IsBlockOf layout pairs (Ended few) (block_at (Ended few) g)) →
    (moved' : IsBlockOf layout pairs (Ended moved) (block_at (Ended moved) g)) →
    IsBlockOf layout pairs (Ended (cond b few moved)) (block_at (Ended (cond b few moved)) g)
recheck-block layout pairs g true few moved few' moved' = few'
recheck-block layout pairs g false few moved few' moved' = moved'

held-block : (layout : Layout) (pairs : List Pair) (g : Grid) (r : Record) (b : Bool) (enough : ReadStage) (t : Fetches) → cond b (Some r) None ≡ None →
    IsBlockOf layout pairs (cond b enough (Fetching t)) (block_at (cond b enough (Fetching t)) g)
held-block layout pairs g r true enough t h = cc
held-block layout pairs g r false enough t h = refl

after-block : (layout at : Layout) (pairs : List Pair) (g : Grid) (state : ReaderState) (stage : ReadStage) (answer : ReaderAnswer) → IsReaderAnswer at (ask_at state stage) answer →
    record_in stage answer ≡ None → IsBlockOf layout pairs (after_answer at true stage answer) (block_at (after_answer at true stage answer) g)
after-block layout at pairs g state Looking (told.Looked None) asked h = refl
after-block layout at pairs g state Looking (told.Looked (Some p)) asked h = refl
after-block layout at pairs g state Looking (told.Denied denial) asked h = refl
after-block layout at pairs g state Looking (told.Fetched a) asked h = refl
after-block layout at pairs g state Looking told.Missed asked h = refl
after-block layout at pairs g state (Fetching t) (told.Looked p) asked h =
    recheck-block layout pairs g (eqb (stamp_told p) t.stamp) (mark.TooFew t.seen) (mark.Moved t.stamp (stamp_told p)) refl refl
after-block layout at pairs g state (Fetching t) (told.Denied denial) asked h = refl
after-block layout at pairs g state (Fetching t) told.Missed asked h = refl
after-block layout at pairs g state (Fetching t) (told.Fetched fetch.Nothing) asked h = refl
after-block layout at pairs g state (Fetching t) (told.Fetched fetch.Lost) asked h = refl
after-block layout at pairs g state (Fetching t) (told.Fetched fetch.Down) asked h = refl
after-block layout at pairs g state (Fetching t) (told.Fetched fetch.DiskFault) asked h = refl
after-block layout at pairs g state (Fetching t) (told.Fetched (fetch.Held held)) asked h =
    held-block layout pairs g (record { fetches = t; length = held.length }) (eqb held.stamp t.stamp)
    (unless_enough at true (with_record t held.length)) (with_seen t seen.Held) h
after-block layout at pairs g state (Ended e) answer asked h = absurd asked

pub told-other : (state : ReaderState) (search : Search) (block : Grid) (m : Machine) (answer : ReaderAnswer) (pairs : List Pair) (stage : ReadStage) →
    machine_of state search block ≡ m → IsReaderAnswer m.state.layout (ask_at m.state m.state.stage) answer → record_in state.stage answer ≡ None →
    stage ≡ after_answer state.layout true state.stage answer → IsBlockOf m.state.layout pairs stage (block_at stage block)
told-other state search block m answer pairs stage view asked none is =
    let here : IsReaderAnswer state.layout (ask_at state state.stage) answer =
    subst (λ (x : Machine). IsReaderAnswer x.state.layout (ask_at x.state x.state.stage) answer) (sym view) asked in
    subst (λ (s : ReadStage). IsBlockOf m.state.layout pairs s (block_at s block)) (sym is)
    (after-block m.state.layout state.layout pairs block state state.stage answer here none)

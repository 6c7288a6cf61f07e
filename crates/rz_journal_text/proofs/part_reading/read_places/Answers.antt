-- The nodes are read one by one.
use Rattle.std.proofs.Common.{◌≡◌, ℕ, ◌+◌, ◌-◌, List, [], ◌∷◌, ◌++◌, length, None, sym, ◌∙◌, ap, arith, rules, length-append}
use Rattle.rz_journal_text.specs.Fronts.{number, nodes, places}
use Rattle.rz_journal_text.proofs.Steps.{Fails, gives_on}
use Rattle.rz_journal_text.proofs.FieldLaws.{nodes_none, nodes_read, nodes_stop, places_are}
use Rattle.rz_journal_text.proofs.part_reading.read_places.Goals as goal

pub returns : goal.returns
returns c =
    places_are c.args.front.now c.byte.new.self c.in_ok-count.count c.in_ok-count.ensures (omega arith)
    ∙ sym c.loop.invariant.so_far
    ∙ nodes_none c.loop.places (c.in_ok-count.count - c.loop.counter) c.loop.front (omega arith)

pub returns-in_err-u16 : goal.returns-in_err-u16
returns-in_err-u16 c =
    let stop : number 2 c.loop.front ≡ None → places c.args.front.now ≡ None =
    λ none. places_are c.args.front.now c.byte.new.self c.in_ok-count.count c.in_ok-count.ensures (omega arith)
    ∙ sym c.loop.invariant.so_far
    ∙ nodes_stop c.loop.places (c.in_ok-count.count - c.loop.counter) c.loop.front (omega arith) none in
    let fails : Fails c.from_residual-in_err-u16.result (number 2 c.loop.front) = first_of (search rules, grind arith) in
    gives_on c.from_residual-in_err-u16.result c.u16.new.self (number 2 c.loop.front) (places c.args.front.now) fails stop

pub loop-preserved : goal.loop-preserved
loop-preserved c =
    let x : ℕ = c.in_ok-u16.field-0 in
    let left : ℕ = c.in_ok-count.count - c.loop.counter in
    let fewer : c.in_ok-count.count - (c.loop.counter + 1) ≡ c.in_ok-count.count - c.loop.counter - 1 = omega arith in
    let long : length c.push.new.self ≡ length c.loop.places + 1 = ap length c.push.ensures ∙ length-append c.loop.places (c.in_ok-u16.field-0 ∷ []) in
    record {
      so_far =
          ap (λ (l : List ℕ). nodes l (c.in_ok-count.count - (c.loop.counter + 1)) c.u16.new.self) c.push.ensures
          ∙ ap (λ (k : ℕ). nodes (c.loop.places ++ c.in_ok-u16.field-0 ∷ []) k c.u16.new.self) fewer
          ∙ sym (nodes_read c.loop.places (c.in_ok-count.count - c.loop.counter) c.loop.front c.u16.new.self c.in_ok-u16.field-0 (omega arith) c.in_ok-u16.ensures)
          ∙ c.loop.invariant.so_far;
      few = omega (arith, long, c.loop.invariant.few);
    }

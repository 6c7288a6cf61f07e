-- The bins stand behind the head.
use Rattle.std.proofs.Common.{◌≡◌, ℕ, ◌+◌, ◌*◌, ◌-◌, ◌<◌, inr, refl, List, ◌++◌, length, take, drop, sym, ◌∙◌, ap, subst, arith}
use Rattle.std.proofs.lemmas.List.{length-take-le, take_at, drop_at}
use Rattle.rz_events.specs.declared.records.Head.{Head}
use Rattle.rz_record.specs.Record.{HasBins, IsRecord, bins_of, record_bytes}
use Rattle.rz_record.proofs.Codec.{bins-read, one_bins}
use Rattle.rz_record.proofs.reading.decode_into.Goals as goal

pub returns-clause-ok : goal.returns-clause-ok
unfolding bins_of
returns-clause-ok c =
    let dst = c.read_u64_into.new.dst in
    let rest = drop c.bins_at-count.result c.args.bins.now in
    let count : length dst ≡ bins_of c.in_ok-head.head = c.read_u64_into.auto.dst ∙ length-take-le c.bins_at-count.result c.args.bins.now (omega (arith, c.requires.room c.in_ok-head.head c.in_ok-head.ensures.ok)) ∙ c.bins_at-count.ensures.value in
    let behind : HasBins c.args.bytes.now dst = bins-read c.args.bytes.now dst (48 + 8 * c.bins_at-count.result - 48) (omega (arith, count, c.bins_at-count.ensures.value)) (omega arith) c.read_u64_into.ensures in
    subst (IsRecord c.args.bytes.now c.in_ok-head.head) (sym (take_at dst rest (bins_of c.in_ok-head.head) count))
    record { head = c.in_ok-head.ensures.ok; count = count; behind = behind }

pub returns-clause-rest : goal.returns-clause-rest
unfolding bins_of
returns-clause-rest c =
    let dst = c.read_u64_into.new.dst in
    let count : length dst ≡ bins_of c.in_ok-head.head = c.read_u64_into.auto.dst ∙ length-take-le c.bins_at-count.result c.args.bins.now (omega (arith, c.requires.room c.in_ok-head.head c.in_ok-head.ensures.ok)) ∙ c.bins_at-count.ensures.value in
    drop_at dst (drop c.bins_at-count.result c.args.bins.now) (bins_of c.in_ok-head.head) count ∙ ap (λ (n : ℕ). drop n c.args.bins.now) c.bins_at-count.ensures.value

pub returns-clause-exact : goal.returns-clause-exact
returns-clause-exact c h b is =
    let ok = returns-clause-ok c in
    let same = c.in_ok-head.ensures.exact h is.head in
    let one : c.in_ok-head.head ≡ h = cc in
    let all = c.read_u64_into.new.dst ++ drop c.bins_at-count.result c.args.bins.now in
    (same, subst (λ (q : Head). take (bins_of q) all ≡ b) one (one_bins c.args.bytes.now (take (bins_of c.in_ok-head.head) all) b (ok.count ∙ ap bins_of one ∙ sym is.count) ok.behind is.behind))

pub returns-then-bytes-need-clause-err : goal.returns-then-bytes-need-clause-err
unfolding bins_of
returns-then-bytes-need-clause-err c =
    let need : 48 + 8 * c.bins_at-count.result ≡ record_bytes c.in_ok-head.head = ap (λ (n : ℕ). 48 + 8 * n) c.bins_at-count.ensures.value in
    inr (c.in_ok-head.head, c.in_ok-head.ensures.ok, refl, need, subst (λ (n : ℕ). length c.args.bytes.now < n) need c.if-bytes-need.true)

pub returns-then-bytes-need-clause-exact : goal.returns-then-bytes-need-clause-exact
unfolding bins_of
returns-then-bytes-need-clause-exact c h b is =
    let same = c.in_ok-head.ensures.exact h is.head in
    let one : c.in_ok-head.head ≡ h = cc in
    let need : c.bins_at-count.result ≡ length b = c.bins_at-count.ensures.value ∙ ap bins_of one ∙ sym is.count in
    absurd (omega (arith, need, is.behind.room, c.if-bytes-need.true))

-- The bins stand behind the head.
use Rattle.std.proofs.Common.{◌≡◌, ℕ, ◌+◌, ◌*◌, ◌-◌, ◌<◌, ◌≤◌, List, ◌++◌, length, take, drop, sym, ◌∙◌, ap, arith, length-append, length-take, length-drop}
use Rattle.std.proofs.lemmas.List.{take-append-le}
use Rattle.std.proofs.lemmas.Slice.{take-put_mid_below}
use borrow.Rule.Slice.PartMut.{put_mid}
use Rattle.rz_record.specs.Record.{IsRecord, record_bytes}
use Rattle.rz_record.proofs.Codec.{head-front, bins-put, record-front, one_spelling}
use Rattle.rz_record.proofs.writing.encode_into.Goals as goal

length-put : (xs ys : List ℕ) (n : ℕ) → 48 ≤ length xs → length ys ≡ length xs - 48 → length xs ≡ n → length (put_mid 48 (length xs - 48) xs ys) ≡ n
length-put xs ys n long same is = simp (length-append, length-take, length-drop) (omega arith)

pub returns-clause-record : goal.returns-clause-record
returns-clause-record c =
    let mid = c.encode_head.new.out in
    let z = put_mid 48 (length mid - 48) mid c.write_u64_into.new.dst in
    let long : length z ≡ record_bytes c.args.head.now = length-put mid c.write_u64_into.new.dst (record_bytes c.args.head.now) (omega arith) (omega arith) (omega arith) in
    record {
      head = head-front z mid c.args.head.now (take-put_mid_below 48 (length mid - 48) mid c.write_u64_into.new.dst 48 (omega arith) (omega arith)) (omega arith) c.encode_head.ensures;
      count = c.requires.bins;
      behind = bins-put (length mid - 48) mid c.args.bins.now (omega arith) (λ i. omega (arith, c.type_inv.bins i)) z (ap (put_mid 48 (length mid - 48) mid) c.write_u64_into.ensures) (omega (arith, c.requires.bins));
    }

pub returns-clause-front : goal.returns-clause-front
returns-clause-front c more =
    let mid = c.encode_head.new.out in
    let z = put_mid 48 (length mid - 48) mid c.write_u64_into.new.dst in
    let long : length z ≡ record_bytes c.args.head.now = length-put mid c.write_u64_into.new.dst (record_bytes c.args.head.now) (omega arith) (omega arith) (omega arith) in
    record-front (z ++ more) z c.args.head.now c.args.bins.now (take-append-le (record_bytes c.args.head.now) z more (omega arith)) (omega (arith, length-append z more)) (returns-clause-record c)

pub returns-clause-one_spelling : goal.returns-clause-one_spelling
returns-clause-one_spelling c other small long is =
    let mid = c.encode_head.new.out in
    let z = put_mid 48 (length mid - 48) mid c.write_u64_into.new.dst in
    let long-z : length z ≡ record_bytes c.args.head.now = length-put mid c.write_u64_into.new.dst (record_bytes c.args.head.now) (omega arith) (omega arith) (omega arith) in
    one_spelling other z c.args.head.now c.args.bins.now small (λ k. omega (arith, c.type_inv.out k)) is (returns-clause-record c) long long-z

use Rattle.std.proofs.Common.{◌≡◌, ◌+◌, ◌++◌, vec_len, vec_capacity}
use Rattle.rz_operation_model.specs.Ranges.{cut}
use Rattle.rz_file.proofs.texts.push_cut.Given as goal

abbrev pub invariant-loop-i : goal.invariant-loop-i
invariant-loop-i l = record {
  items : l.bytes.items ≡ l.initial.bytes.items ++ cut l.start l.i l.text;
  long : vec_len l.bytes ≡ vec_len l.initial.bytes + l.i;
  room : vec_capacity l.bytes ≡ vec_capacity l.initial.bytes;
}

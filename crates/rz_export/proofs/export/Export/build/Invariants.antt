use Rattle.std.proofs.Common.{◌≡◌, drop}
use Rattle.rz_export.specs.Building.{with_parts, made_of, AllAdd}
use Rattle.rz_export.proofs.export.Export.build.Given as goal

-- the parts that are left may be added, and with them it is the export of all parts
abbrev pub invariant-loop-part : goal.invariant-loop-part
invariant-loop-part l = record {
  left : AllAdd l.export (drop l.part-index l.parts);
  whole : with_parts l.export (drop l.part-index l.parts) ≡ made_of l.fn.volume l.parts;
}

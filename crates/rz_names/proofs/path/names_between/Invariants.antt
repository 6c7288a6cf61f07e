use Rattle.std.proofs.Common.{◌≡◌, true, map}
use Rattle.std.specs.List.{list_all}
use Rattle.rz_export_model.specs.Paths.{is_name}
use Rattle.rz_names.proofs.path.names_between.Given as goal

-- the parts so far are the names, and each is one
abbrev pub invariant-loop-part : goal.invariant-loop-part
invariant-loop-part l = record {
  made : l.names.items ≡ map (λ x. x.now) l.yielded;
  good : list_all is_name (map (λ x. x.now) l.yielded) ≡ true;
}

use Rattle.std.proofs.Common.{◌≡◌, Some, None, is_some, true, false, ap, ◌∙◌, sym, subst}
use Rattle.std.specs.Option.{option_copied_mut}
use Rattle.std.specs.FinMap as maps
use Rattle.rz_export_model.specs.Export.{begun}
use Rattle.rz_blocks.specs.declared.blocks.BlockEntry.{BlockEntry}
use Rattle.rz_blocks.specs.declared.blocks.Blocks.TheInside.{Inside}
use Rattle.rz_blocks.specs.Shown.{shown}
use Rattle.rz_blocks.specs.Marked.{kept_at, is_public, AreMarked}
use Rattle.rz_blocks.proofs.Shows.{map_of, there-kept, one-set, set-begun}
use Rattle.rz_blocks.proofs.Marked.{overwritten}
use Rattle.rz_blocks.proofs.blocks.Blocks.begin.Goals as goal
use Rattle.rz_blocks.proofs.blocks.Blocks.begin.Goals.{in-Some, in_default}

pub invariant_of-self : goal.invariant_of-self
invariant_of-self c =
    elim c.match-get_mut.branch as (λ _. AreMarked c.match-get_mut.self-inside.entries.entries c.match-get_mut.self-inside.published) [
      | in-Some w ↦
          let es = c.self.inside.entries.entries in
          let e : BlockEntry = record w.in-Some.entry.now { latest = c.args.stamp } in
          let at : kept_at es c.args.key ≡ Some w.in-Some.entry.now = sym c.get_mut.ensures.value ∙ ap option_copied_mut w.in-Some.is in
          subst (λ (s : Inside). AreMarked s.entries.entries s.published) (sym w.self-inside-is)
          (overwritten es (c.get_mut.follows.lender e).entries c.self.inside.published c.args.key e c.self.invariant ((c.get_mut.follows.holds e).3 (ap is_some at)).0 (ap is_some at) (ap is_public at))
      | in_default w ↦
          let es = c.self.inside.entries.entries in
          let none : kept_at es c.args.key ≡ None = sym c.get_mut.ensures.value ∙ ap option_copied_mut w.in_default.is in
          let never : true ≡ false = sym (there-kept es c.args.self.now c.self.view_is c.args.key c.requires.prepared) ∙ ap is_some none in
          cc
    ]

pub returns : goal.returns
returns c =
    elim c.match-get_mut.branch as (λ _. map_of c.match-get_mut.self-inside.entries.entries ≡ begun c.args.self.now c.args.key c.args.stamp) [
      | in-Some w ↦
          let es = c.self.inside.entries.entries in
          let e : BlockEntry = record w.in-Some.entry.now { latest = c.args.stamp } in
          let at : kept_at es c.args.key ≡ Some w.in-Some.entry.now = sym c.get_mut.ensures.value ∙ ap option_copied_mut w.in-Some.is in
          ap (λ (s : Inside). map_of s.entries.entries) w.self-inside-is
          ∙ one-set es (c.get_mut.follows.lender e).entries c.args.key e ((c.get_mut.follows.holds e).3 (ap is_some at)).0
          ∙ ap (λ m. maps.insert m c.args.key (shown e)) c.self.view_is
          ∙ set-begun es c.args.self.now c.args.key w.in-Some.entry.now c.self.view_is at c.args.stamp
      | in_default w ↦
          let es = c.self.inside.entries.entries in
          let none : kept_at es c.args.key ≡ None = sym c.get_mut.ensures.value ∙ ap option_copied_mut w.in_default.is in
          let never : true ≡ false = sym (there-kept es c.args.self.now c.self.view_is c.args.key c.requires.prepared) ∙ ap is_some none in
          cc
    ]

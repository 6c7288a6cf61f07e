use Rattle.std.proofs.Common.{◌≡◌, Some, None, is_some, ap, ◌∙◌, sym, subst, refl}
use Rattle.std.specs.Option.{option_copied_mut}
use Rattle.rz_tree.specs.declared.inodes.Inode.{Inode}
use Rattle.rz_tree.specs.declared.inodes.Inodes.TheInside.{Inside}
use Rattle.rz_tree.specs.Inodes.{AreFilesOf, changed_at, with_attributes}
use Rattle.rz_tree.proofs.Files.{changed-files}
use Rattle.rz_tree.proofs.Rows.{table_of, kept_at, one-changed, none-changed}
use Rattle.rz_tree.proofs.inodes.Inodes.set_attributes.Goals as goal
use Rattle.rz_tree.proofs.inodes.Inodes.set_attributes.Goals.{in-Some, in_default}

pub invariant_of-self : goal.invariant_of-self
invariant_of-self c =
    let change : Inode → Inode = with_attributes c.args.mode c.args.mtime in
    let before = changed-files (table_of c.self.inside.entries.entries) c.args.fid change c.self.inside.files (λ _. refl) c.self.invariant in
    elim c.match-get_mut.branch as (λ _. AreFilesOf (table_of c.match-get_mut.self-inside.entries.entries) c.match-get_mut.self-inside.files) [
      | in-Some w ↦
          let at : kept_at c.self.inside.entries.entries c.args.fid ≡ Some w.in-Some.inode.now = sym c.get_mut.ensures.value ∙ ap option_copied_mut w.in-Some.is in
          subst (λ (s : Inside). AreFilesOf (table_of s.entries.entries) s.files) (sym w.self-inside-is)
          (subst (λ m. AreFilesOf m c.self.inside.files)
          (sym (one-changed c.self.inside.entries.entries (c.get_mut.follows.lender (change w.in-Some.inode.now)).entries c.args.fid change w.in-Some.inode.now at
          ((c.get_mut.follows.holds (change w.in-Some.inode.now)).3 (ap is_some at)).0))
          before)
      | in_default w ↦
          let none : kept_at c.self.inside.entries.entries c.args.fid ≡ None = sym c.get_mut.ensures.value ∙ ap option_copied_mut w.in_default.is in
          subst (λ (s : Inside). AreFilesOf (table_of s.entries.entries) s.files) (sym w.self-inside-is)
          (subst (λ m. AreFilesOf m c.self.inside.files)
          (sym (none-changed c.self.inside.entries.entries c.get_mut.follows.lender-at-none.entries c.args.fid change none (ap (λ m. m.entries) c.get_mut.follows.holds-at-none)))
          before)
    ]

pub returns : goal.returns
returns c =
    let change : Inode → Inode = with_attributes c.args.mode c.args.mtime in
    ◌∙◌ (elim c.match-get_mut.branch as (λ _. table_of c.match-get_mut.self-inside.entries.entries ≡ changed_at (table_of c.self.inside.entries.entries) c.args.fid change) [
      | in-Some w ↦
          let at : kept_at c.self.inside.entries.entries c.args.fid ≡ Some w.in-Some.inode.now = sym c.get_mut.ensures.value ∙ ap option_copied_mut w.in-Some.is in
          ap (λ (s : Inside). table_of s.entries.entries) w.self-inside-is
          ∙ one-changed c.self.inside.entries.entries (c.get_mut.follows.lender (change w.in-Some.inode.now)).entries c.args.fid change w.in-Some.inode.now at
          ((c.get_mut.follows.holds (change w.in-Some.inode.now)).3 (ap is_some at)).0
      | in_default w ↦
          let none : kept_at c.self.inside.entries.entries c.args.fid ≡ None = sym c.get_mut.ensures.value ∙ ap option_copied_mut w.in_default.is in
          ap (λ (s : Inside). table_of s.entries.entries) w.self-inside-is
          ∙ none-changed c.self.inside.entries.entries c.get_mut.follows.lender-at-none.entries c.args.fid change none (ap (λ m. m.entries) c.get_mut.follows.holds-at-none)
    ]) (ap (λ m. changed_at m c.args.fid change) c.self.view_is)

use Rattle.std.proofs.Common.{◌≡◌, List, [], ◌∷◌, Option, Some, None, sym, ap, subst, ◌∙◌, arith}
use Rattle.std.specs.Option.{option_map}
use Rattle.std.specs.FinMap.Entries.{find}
use Rattle.rz_events.specs.Keys.{key_cmp}
use Rattle.rz_index.specs.declared.index.Entry.{Entry}
use Rattle.rz_index.specs.Indexed.{pairs_of}
use Rattle.rz_index.specs.Standing.{Part, Tree, Lone, Holds, freed_part}
use Rattle.rz_index.specs.Spares.{number_of}
use Rattle.rz_index.proofs.Standing.{swapped, emptied}
use Rattle.rz_index.proofs.Rotations.{none, pulled}
use Rattle.rz_index.proofs.Kept.{none-there, some-there}
use Rattle.rz_index.proofs.index.removed.Goals as goal

pub returns-then-node-eq0 : goal.returns-then-node-eq0
returns-then-node-eq0 c = λ entries blanks h sorted fits.
    let node = c.take-root.result.1 in
    let root = Tree c.take-root.result.0 in
    let parts : List Part = Tree c.args.spare blanks ∷ [] in
    let o = find key_cmp c.args.key (pairs_of entries) in
    let there = c.take-root.ensures.node entries parts h sorted fits in
    let r = c.take-root.ensures.entries entries parts h sorted fits in
    let gone : o ≡ None = none-there o node c.if-node-eq0.true there in
    let naught : number_of o ≡ 0 = ap number_of gone in
    record {
      its = r.its;
      left = blanks;
      are = r.are;
      freed = sym (ap (option_map (λ (e : Entry). e.cell)) gone);
      count = omega (arith, naught);
      holds = subst (λ (x : Option Entry). Holds c.take-root.new.row (root r.its ∷ freed_part x node parts)) gone r.holds;
    }

pub returns-in_default : goal.returns-in_default
returns-in_default c = λ entries blanks h sorted fits.
    let node = c.take-root.result.1 in
    let root = Tree c.take-root.result.0 in
    let parts : List Part = Tree c.args.spare blanks ∷ [] in
    let o = find key_cmp c.args.key (pairs_of entries) in
    let there = c.take-root.ensures.node entries parts h sorted fits in
    let r = c.take-root.ensures.entries entries parts h sorted fits in
    let e = some-there o node c.if-node-eq0.false there in
    let holds = subst (λ (x : Option Entry). Holds c.take-root.new.row (root r.its ∷ freed_part x node parts)) e.1 r.holds in
    let alone = swapped c.take-root.new.row (root r.its) (Lone node e.0) parts none holds in
    let never : None ≡ Some e.0 = c.in_default.ensures e.0 (root r.its ∷ parts) alone in
    absurd (cc)

pub returns : goal.returns
returns c = λ entries blanks h sorted fits.
    let node = c.take-root.result.1 in
    let root = Tree c.take-root.result.0 in
    let parts : List Part = Tree c.args.spare blanks ∷ [] in
    let o = find key_cmp c.args.key (pairs_of entries) in
    let there = c.take-root.ensures.node entries parts h sorted fits in
    let r = c.take-root.ensures.entries entries parts h sorted fits in
    let e = some-there o node c.if-node-eq0.false there in
    let holds = subst (λ (x : Option Entry). Holds c.take-root.new.row (root r.its ∷ freed_part x node parts)) e.1 r.holds in
    let alone = swapped c.take-root.new.row (root r.its) (Lone node e.0) parts none holds in
    let same : Some c.in-Some.entry ≡ Some e.0 = c.in-Some.ensures e.0 (root r.its ∷ parts) alone in
    let one : number_of o ≡ 1 = ap number_of e.1 in
    let a = pulled c.take-root.new.row (root r.its ∷ Lone node e.0 ∷ []) (Tree c.args.spare blanks) [] none holds in
    let b = pulled c.take-root.new.row (Tree c.args.spare blanks ∷ root r.its ∷ []) (Lone node e.0) [] none a in
    let d = c.linked.ensures [] blanks e.0 (root r.its ∷ []) (emptied c.take-root.new.row (Lone node e.0 ∷ Tree c.args.spare blanks ∷ root r.its ∷ []) none b) in
    record {
      its = r.its;
      left = e.0 ∷ blanks;
      are = r.are;
      freed = ap (option_map (λ (e : Entry). e.cell)) (same ∙ sym e.1);
      count = omega (arith, one);
      holds = swapped c.linked.new.row (Tree c.linked.result (e.0 ∷ blanks)) (root r.its) [] none d;
    }

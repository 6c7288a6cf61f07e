use Rattle.std.proofs.Common.{List, ◌∷◌, ◌++◌, [], reverse, Option, sym, ◌∙◌, ap, arith}
use Rattle.std.specs.Prelude.{option_to_list}
use Rattle.rz_nodes.specs.Formatted.{disks_of}
use Rattle.rz_driver.proofs.closing.hand_back_with.Goals as goal

pub push_reserved-requires : goal.push_reserved-requires
push_reserved-requires g c =
    let none = c.clear.ensures.len in
    let same = c.clear.ensures.capacity in
    let room = c.requires.room in
    omega (arith, none, same, room)

pub returns-in-Some : goal.returns-in-Some
returns-in-Some g c =
    let disk = c.in-Some.disk in
    let row = disks_of c.args.servers.items in
    let home = c.push_reserved.ensures.items ∙ ap (λ (xs : List g.row.D.Denot). xs ++ disk ∷ []) c.clear.ensures.items in
    c.hand_back.ensures ∙ ap (λ (xs : List g.row.D.Denot). row ++ reverse xs) home ∙ ap (λ (o : Option g.row.D.Denot). row ++ option_to_list o) (sym c.in-Some.is)

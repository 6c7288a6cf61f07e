use Rattle.std.proofs.Common.{◌≡◌, ◌<◌, length, get_or, Some, refl, sym, ◌∙◌, ap, arith}
use Rattle.std.proofs.lemmas.Option.{slice_get_read}
use Rattle.rz_driver.specs.Worlds.{place_of}
use Rattle.rz_driver.proofs.ActorOrders.{place-low}
use Rattle.rz_driver.proofs.orders.plan_miss.Goals as goal

pub returns : goal.returns
returns c =
    let found = c.index-agendas-place.result in
    let s = get_or c.args.agendas.now c.in-Some.place found in
    let at : place_of c.args.by ≡ Some c.in-Some.place = sym c.place.ensures ∙ c.in-Some.is in
    let row = place-low c.args.by c.in-Some.place at in
    let count : length c.args.agendas.now ≡ 80 = c.requires.each in
    let low : c.in-Some.place < length c.args.agendas.now = omega (arith, row, count) in
    record {
      place = c.in-Some.place;
      agenda = s;
      after = record s { miss = Some c.args.reply };
      at = at;
      is = slice_get_read c.args.agendas.now (length c.args.agendas.now) c.in-Some.place found refl low c.index-agendas-place.is ∙ ap Some c.index-agendas-place.is;
      agendas = refl;
      machine = refl;
      lock = refl;
      ordered = refl;
    }

use Rattle.std.proofs.Common.{◌≡◌, ◌∙◌, sym, ap, false, string_bytes}
use Rattle.rz_store_file.specs.Described.{is_key}
use Rattle.rz_store_file.proofs.Keys.{by_names, unknown_name, stops}
use Rattle.rz_store_file.proofs.reading.unknown_key.Goals as goal

pub returns-then-not-is_key : goal.returns-then-not-is_key
returns-then-not-is_key c =
    let no : is_key (string_bytes c.in-Some.key.now) ≡ false = ap is_key (sym c.as_str.ensures.value) ∙ sym c.is_key.ensures ∙ c.if-not-is_key.true in
    sym (by_names c.args.members.now.entries ∙ sym c.loop-key.invariant.2 ∙ stops c.loop-key.key-iterator c.next.new.self c.in-Some.key.now c.in-Some.ensures.steps no)

pub returns : goal.returns
returns c = sym (by_names c.args.members.now.entries ∙ sym c.loop-key.invariant.2 ∙ ap unknown_name c.in-None.ensures.steps.0)

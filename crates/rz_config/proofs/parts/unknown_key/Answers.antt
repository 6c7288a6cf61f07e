use Rattle.std.proofs.Common.{◌≡◌, ◌∙◌, sym, ap, false, string_bytes}
use Rattle.rz_config.specs.Described.{is_key}
use Rattle.rz_config.proofs.Keys.{by_names, unknown_name, stops}
use Rattle.rz_config.proofs.parts.unknown_key.Goals as goal

pub returns-then-not-is_key : goal.returns-then-not-is_key
returns-then-not-is_key c =
    let no : is_key c.args.kind (string_bytes c.in-Some.key.now) ≡ false = ap (is_key c.args.kind) (sym c.as_str.ensures.value) ∙ sym c.is_key.ensures ∙ c.if-not-is_key.true in
    sym (by_names c.args.kind c.args.members.now.entries ∙ sym c.loop-key.invariant.2 ∙ stops c.args.kind c.loop-key.key-iterator c.next.new.self c.in-Some.key.now c.in-Some.ensures.steps no)

pub returns : goal.returns
returns c = sym (by_names c.args.kind c.args.members.now.entries ∙ sym c.loop-key.invariant.2 ∙ ap (unknown_name c.args.kind) c.in-None.ensures.steps.0)

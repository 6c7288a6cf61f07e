use Rattle.std.proofs.Common.{◌≡◌, Some, None, is_some, true, false, not, ap, ◌∙◌, sym, refl}
use Rattle.std.specs.Option.{option_copied_mut}
use Rattle.std.specs.FinMap as maps
use Rattle.rz_events.specs.declared.files.Published.{Published}
use Rattle.rz_blocks.specs.declared.blocks.BlockEntry.{BlockEntry}
use Rattle.rz_blocks.specs.Shown.{shown}
use Rattle.rz_blocks.specs.Marked.{kept_at, is_public}
use Rattle.rz_blocks.proofs.Shows.{there-kept, one-set, set-published}
use Rattle.rz_blocks.proofs.Marked.{overwritten, rewritten}
use Rattle.rz_blocks.proofs.blocks.Blocks.publish.Goals as goal

pub returns-in_default : goal.returns-in_default
returns-in_default c =
    let none : kept_at c.self.inside.entries.entries c.args.key ≡ None = sym c.get_mut.ensures.value ∙ ap option_copied_mut c.in_default.is in
    let never : true ≡ false = sym (there-kept c.self.inside.entries.entries c.args.self.now c.self.view_is c.args.key c.requires) ∙ ap is_some none in
    cc

pub invariant_of-self-then-is_none : goal.invariant_of-self-then-is_none
invariant_of-self-then-is_none c =
    let es = c.self.inside.entries.entries in
    let e : BlockEntry = record { latest = c.in-Some.entry.now.latest; published = Some c.newer_publish.result } in
    let at : kept_at es c.args.key ≡ Some c.in-Some.entry.now = sym c.get_mut.ensures.value ∙ ap option_copied_mut c.in-Some.is in
    rewritten es (c.get_mut.follows.lender e).entries c.self.inside.published c.set.new.self c.args.key (Some e) true c.self.invariant ((c.get_mut.follows.holds e).3 (ap is_some at)).0
    c.set.ensures.marks c.set.ensures.room refl (λ _. c.self.invariant.room c.args.key (ap is_some at)) (λ _. c.self.invariant.small c.args.key (ap is_some at))

pub invariant_of-self-else-is_none : goal.invariant_of-self-else-is_none
invariant_of-self-else-is_none c =
    let es = c.self.inside.entries.entries in
    let e : BlockEntry = record { latest = c.in-Some.entry.now.latest; published = Some c.newer_publish.result } in
    let at : kept_at es c.args.key ≡ Some c.in-Some.entry.now = sym c.get_mut.ensures.value ∙ ap option_copied_mut c.in-Some.is in
    overwritten es (c.get_mut.follows.lender e).entries c.self.inside.published c.args.key e c.self.invariant ((c.get_mut.follows.holds e).3 (ap is_some at)).0 (ap is_some at)
    (ap is_public at ∙ c.is_none.ensures ∙ ap not c.if-is_none.false)

pub returns-then-is_none : goal.returns-then-is_none
returns-then-is_none c =
    let es = c.self.inside.entries.entries in
    let e : BlockEntry = record { latest = c.in-Some.entry.now.latest; published = Some c.newer_publish.result } in
    let at : kept_at es c.args.key ≡ Some c.in-Some.entry.now = sym c.get_mut.ensures.value ∙ ap option_copied_mut c.in-Some.is in
    one-set es (c.get_mut.follows.lender e).entries c.args.key e ((c.get_mut.follows.holds e).3 (ap is_some at)).0
    ∙ ap (λ m. maps.insert m c.args.key (shown e)) c.self.view_is
    ∙ ap (λ (p : Published). (let x : BlockEntry = record { latest = c.in-Some.entry.now.latest; published = Some p } in maps.insert c.args.self.now c.args.key (shown x))) c.newer_publish.ensures
    ∙ set-published es c.args.self.now c.args.key c.in-Some.entry.now c.self.view_is at c.args.published

pub returns-else-is_none : goal.returns-else-is_none
returns-else-is_none c =
    let es = c.self.inside.entries.entries in
    let e : BlockEntry = record { latest = c.in-Some.entry.now.latest; published = Some c.newer_publish.result } in
    let at : kept_at es c.args.key ≡ Some c.in-Some.entry.now = sym c.get_mut.ensures.value ∙ ap option_copied_mut c.in-Some.is in
    one-set es (c.get_mut.follows.lender e).entries c.args.key e ((c.get_mut.follows.holds e).3 (ap is_some at)).0
    ∙ ap (λ m. maps.insert m c.args.key (shown e)) c.self.view_is
    ∙ ap (λ (p : Published). (let x : BlockEntry = record { latest = c.in-Some.entry.now.latest; published = Some p } in maps.insert c.args.self.now c.args.key (shown x))) c.newer_publish.ensures
    ∙ set-published es c.args.self.now c.args.key c.in-Some.entry.now c.self.view_is at c.args.published

-- The bytes that were read are those of the text.
use Rattle.std.proofs.Common.{◌≡◌, Bool, true, false, not, nat_eq, List, ℕ, length, refl, sym, ap, ◌∙◌, subst, arith}
use Rattle.std.specs.Cmp.Lexicographic.{pointwise, same_text, other_text}
use Rattle.rz_disk.specs.Images.{window}
use Rattle.rz_journal.proofs.Changes.{size_is}
use Rattle.rz_journal.proofs.Opened.{shut_there, formatted_there, journal_there}
use Rattle.rz_journal.proofs.half_opening.read_header.Goals as goal

no_test : (b : Bool) → not b ≡ true → false ≡ b
no_test true is = cc
no_test false is = refl

yes_test : (b : Bool) → not b ≡ false → true ≡ b
yes_test true is = refl
yes_test false is = cc

pub read-requires : goal.read-requires
read-requires g c = omega (arith, c.requires, size_is)

pub read-requires-2 : goal.read-requires-2
read-requires-2 g c = omega (arith, c.requires, size_is, ap length c.read.ensures.text)

pub returns-in_default-read-clause-crash : goal.returns-in_default-read-clause-crash
returns-in_default-read-clause-crash g c image left = c.read.ensures.crash image (c.read-2.ensures.crash image left)

pub returns-then-gates-eq0-clause-refused : goal.returns-then-gates-eq0-clause-refused
returns-then-gates-eq0-clause-refused g c = (
  c.requires,
  λ told.
      let gates = c.read-2.new.out in
      let there = subst (λ (t : List ℕ). gates ≡ window 32 2 t) c.read.ensures.text (c.in-Ok-read.ensures.gives told) in
      shut_there (g.D.Disk.text c.args.disk.now) c.read.new.out gates there (omega arith),
)

pub returns-then-ne-clause-refused : goal.returns-then-ne-clause-refused
returns-then-ne-clause-refused g c = (
  c.requires,
  λ told.
      let text = g.D.Disk.text c.args.disk.now in
      let gates = c.read-2.new.out in
      let there = subst (λ (t : List ℕ). gates ≡ window 32 2 t) c.read.ensures.text (c.in-Ok-read.ensures.gives told) in (
        formatted_there text c.read.new.out gates there (omega arith),
        λ same.
            let alike = c.in-Ok.ensures.gives told ∙ same in
            let differs = other_text c.read.new.out c.header.result (no_test (pointwise nat_eq c.read.new.out c.header.result) (sym c.ne.ensures ∙ c.if-ne.true)) in
            differs (alike ∙ sym c.header.ensures),
      ),
)

pub returns-clause-picked : goal.returns-clause-picked
returns-clause-picked g c = (
  omega arith,
  λ told.
      let text = g.D.Disk.text c.args.disk.now in
      let gates = c.read-2.new.out in
      let there = subst (λ (t : List ℕ). gates ≡ window 32 2 t) c.read.ensures.text (c.in-Ok-read.ensures.gives told) in
      let same = same_text c.read.new.out c.header.result (yes_test (pointwise nat_eq c.read.new.out c.header.result) (sym c.ne.ensures ∙ c.if-ne.false)) in
      journal_there text c.read.new.out gates there (c.in-Ok.ensures.gives told) c.requires (omega arith) (same ∙ c.header.ensures),
)

use Rattle.std.proofs.Common.{rules, arith, ◌≡◌, ◌≤◌, true, false, subst, []}
use Rattle.std.proofs.lemmas.Grind.{common_steps}
use Rattle.mj_angles.specs.Layout.{inverse_of}
use Rattle.rz_words.specs.Grid.{Grid}
use Rattle.rz_scrub.specs.Records.{Records, added}
use Rattle.rz_scrub.specs.Misfits.{IsWithinReach}
use Rattle.rz_scrub.specs.Verdicts.{SaysOf}
use Rattle.rz_scrub.specs.declared.verdict.Verdict.TheVariants.{Unsure}
use Rattle.rz_scrub.specs.Choice.{IsNoneLeft}
use Rattle.rz_scrub.proofs.Choosing.{none-at-all}
use Rattle.rz_scrub.proofs.Judging.{Judged, judged-none, judged-by}
use Rattle.rz_scrub.proofs.scrub.Scrub.judge.Goals as goal

-- nothing was found
none-judged : (s inner : Records) (g : Grid) → inner ≡ s → inverse_of s.layout ≤ added s → IsNoneLeft inner [] 0 → Judged s g Unsure
none-judged s inner g is enough none = judged-none s g (none-at-all s enough (subst (λ (r : Records). IsNoneLeft r [] 0) is none))

pub returns-then-not-is_found-clause-clean : goal.returns-then-not-is_found-clause-clean
returns-then-not-is_found-clause-clean c =
    let no' : c.is_found.result ≡ false = first_of (cc, search rules, grind (arith, common_steps)) in
    (none-judged c.args.self.now c.self.inside.records c.is_found.new.out c.self.view_is c.requires.enough (c.is_found.ensures.none no')).clean

pub returns-then-not-is_found-clause-altered : goal.returns-then-not-is_found-clause-altered
returns-then-not-is_found-clause-altered c =
    let no' : c.is_found.result ≡ false = first_of (cc, search rules, grind (arith, common_steps)) in
    (none-judged c.args.self.now c.self.inside.records c.is_found.new.out c.self.view_is c.requires.enough (c.is_found.ensures.none no')).altered

pub returns-then-not-is_found-clause-unsure : goal.returns-then-not-is_found-clause-unsure
returns-then-not-is_found-clause-unsure c =
    let no' : c.is_found.result ≡ false = first_of (cc, search rules, grind (arith, common_steps)) in
    (none-judged c.args.self.now c.self.inside.records c.is_found.new.out c.self.view_is c.requires.enough (c.is_found.ensures.none no')).unsure

pub returns-then-not-is_found-clause-only : goal.returns-then-not-is_found-clause-only
returns-then-not-is_found-clause-only c =
    let no' : c.is_found.result ≡ false = first_of (cc, search rules, grind (arith, common_steps)) in
    (none-judged c.args.self.now c.self.inside.records c.is_found.new.out c.self.view_is c.requires.enough (c.is_found.ensures.none no')).only

pub returns-clause-altered : goal.returns-clause-altered
returns-clause-altered c =
    let s : Records = c.args.self.now in
    let g : Grid = c.is_found.new.out in
    let yes' : c.is_found.result ≡ true = first_of (cc, search rules, grind (arith, common_steps)) in
    let within : IsWithinReach s g = subst (λ (r : Records). IsWithinReach r g) c.self.view_is (c.is_found.ensures.found yes') in
    let says : SaysOf s g c.verdict_by.result = subst (λ (r : Records). SaysOf r g c.verdict_by.result) c.self.view_is c.verdict_by.ensures.says in
    (judged-by s g c.verdict_by.result within (λ h near. c.one_within_reach.ensures s h g c.requires.enough near within) says).altered

pub returns-clause-unsure : goal.returns-clause-unsure
returns-clause-unsure c =
    let s : Records = c.args.self.now in
    let g : Grid = c.is_found.new.out in
    let yes' : c.is_found.result ≡ true = first_of (cc, search rules, grind (arith, common_steps)) in
    let within : IsWithinReach s g = subst (λ (r : Records). IsWithinReach r g) c.self.view_is (c.is_found.ensures.found yes') in
    let says : SaysOf s g c.verdict_by.result = subst (λ (r : Records). SaysOf r g c.verdict_by.result) c.self.view_is c.verdict_by.ensures.says in
    (judged-by s g c.verdict_by.result within (λ h near. c.one_within_reach.ensures s h g c.requires.enough near within) says).unsure

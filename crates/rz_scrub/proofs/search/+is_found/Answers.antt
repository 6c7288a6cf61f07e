use Rattle.std.proofs.Common.{rules, arith, ◌≡◌, ◌+◌, ◌<◌, ℕ, true, false, List, [], ◌∷◌, ◌++◌, length, take, sym, ap, ◌∙◌, subst, length-set}
use Rattle.std.proofs.lemmas.Grind.{common_steps}
use Rattle.std.proofs.lemmas.List.{length-take-le, take_more_set}
use Rattle.mj_angles.specs.Layout.{safe_of, inverse_of}
use Rattle.rz_scrub.specs.Records.{Records, has_bins}
use Rattle.rz_scrub.specs.Choice.{IsChoice, IsNoneLeft}
use Rattle.rz_scrub.proofs.Choosing.{none-short, none-absent, none-either, choice-written, choice-later, choice-kept}
use Rattle.rz_scrub.proofs.search.+is_found.Goals as goal

pub returns-then-count-safe-clause-none : goal.returns-then-count-safe-clause-none
returns-then-count-safe-clause-none t c e =
    let s : Records = c.args.records.now in
    let places : length s.bins ≡ safe_of s.layout = c.layout-layout.ensures.records.places in
    let safe : c.safe.result ≡ safe_of s.layout = c.safe.ensures.value ∙ ap safe_of c.layout-layout.ensures.value in
    let inverse : c.inverse-2.result ≡ inverse_of s.layout = c.inverse-2.ensures.value ∙ ap inverse_of c.layout-layout.ensures.value in
    let long = length-take-le c.args.count c.args.choice.now c.requires.count in
    none-short s (take c.args.count c.args.choice.now) c.args.from (omega (arith, places, safe, inverse, long))

pub returns-then-not-has_bins-clause-none : goal.returns-then-not-has_bins-clause-none
returns-then-not-has_bins-clause-none t c e =
    let s : Records = c.args.records.now in
    let places : length s.bins ≡ safe_of s.layout = c.layout-layout.ensures.records.places in
    let safe : c.safe.result ≡ safe_of s.layout = c.safe.ensures.value ∙ ap safe_of c.layout-layout.ensures.value in
    let first : c.inverse.result ≡ inverse_of s.layout = c.inverse.ensures.value ∙ ap inverse_of c.layout-layout.ensures.value in
    let inverse : c.inverse-2.result ≡ inverse_of s.layout = c.inverse-2.ensures.value ∙ ap inverse_of c.layout-layout.ensures.value in
    let room = c.requires.room in
    let has : has_bins s c.args.from ≡ false = first_of (cc, search rules, grind (arith, common_steps)) in
    none-absent s (take c.args.count c.args.choice.now) c.args.from (omega (arith, places, safe, first, inverse, room)) has (c.is_found.ensures.none e)

pub is_found-requires-2 : goal.is_found-requires-2
is_found-requires-2 t c =
    let s : Records = c.args.records.now in
    let first : c.inverse.result ≡ inverse_of s.layout = c.inverse.ensures.value ∙ ap inverse_of c.layout-layout.ensures.value in
    let inverse : c.inverse-2.result ≡ inverse_of s.layout = c.inverse-2.ensures.value ∙ ap inverse_of c.layout-layout.ensures.value in
    let safe : c.safe.result ≡ safe_of s.layout = c.safe.ensures.value ∙ ap safe_of c.layout-layout.ensures.value in
    let room = c.requires.room in
    let within : c.args.count < length c.args.choice.now = omega (arith, first, room) in
    let has : has_bins s c.args.from ≡ true = first_of (cc, search rules, grind (arith, common_steps)) in
    let long = length-set c.args.choice.now c.args.count c.args.from in (
      search rules,
      (
        c.requires.layout,
        (
          long ∙ c.requires.room,
          (
            omega (arith, long, within),
            (omega (arith, first, inverse, safe, room), (choice-written s c.args.from c.args.choice.now c.args.count within c.requires.chosen has, search rules)),
          ),
        ),
      ),
    )

pub returns-then-is_found-clause-choice : goal.returns-then-is_found-clause-choice
returns-then-is_found-clause-choice t c = choice-kept c.args.choice.now c.args.count c.args.from c.is_found-2.new.choice c.is_found-2.ensures.choice

pub is_found-requires-3 : goal.is_found-requires-3
is_found-requires-3 t c =
    let s : Records = c.args.records.now in
    let first : c.inverse.result ≡ inverse_of s.layout = c.inverse.ensures.value ∙ ap inverse_of c.layout-layout.ensures.value in
    let inverse : c.inverse-2.result ≡ inverse_of s.layout = c.inverse-2.ensures.value ∙ ap inverse_of c.layout-layout.ensures.value in
    let safe : c.safe.result ≡ safe_of s.layout = c.safe.ensures.value ∙ ap safe_of c.layout-layout.ensures.value in
    let room = c.requires.room in
    let long = length-set c.args.choice.now c.args.count c.args.from in
    let same : length c.is_found-2.new.choice ≡ length c.args.choice.now = omega (arith, long) in
    let kept = choice-kept c.args.choice.now c.args.count c.args.from c.is_found-2.new.choice c.is_found-2.ensures.choice in
    let chosen : IsChoice s (c.args.from + 1) (take c.args.count c.is_found-2.new.choice) =
    subst (λ (xs : List ℕ). IsChoice s (c.args.from + 1) xs) (sym kept)
    (choice-later s c.args.from (c.args.from + 1) (take c.args.count c.args.choice.now) (omega arith) c.requires.chosen) in (
      search rules,
      (
        c.is_found-2.ensures.layout ∙ c.requires.layout,
        (same ∙ c.requires.room, (omega (arith, same, room), (omega (arith, first, inverse, safe, room), (chosen, search rules)))),
      ),
    )

pub returns-clause-none : goal.returns-clause-none
returns-clause-none t c e =
    let s : Records = c.args.records.now in
    let places : length s.bins ≡ safe_of s.layout = c.layout-layout.ensures.records.places in
    let safe : c.safe.result ≡ safe_of s.layout = c.safe.ensures.value ∙ ap safe_of c.layout-layout.ensures.value in
    let first : c.inverse.result ≡ inverse_of s.layout = c.inverse.ensures.value ∙ ap inverse_of c.layout-layout.ensures.value in
    let inverse : c.inverse-2.result ≡ inverse_of s.layout = c.inverse-2.ensures.value ∙ ap inverse_of c.layout-layout.ensures.value in
    let room = c.requires.room in
    let chosen : List ℕ = take c.args.count c.args.choice.now in
    let within : c.args.count < length c.args.choice.now = omega (arith, first, room) in
    let kept = choice-kept c.args.choice.now c.args.count c.args.from c.is_found-2.new.choice c.is_found-2.ensures.choice in
    let P : List ℕ → Type 0 = λ xs. IsNoneLeft s xs (c.args.from + 1) in
    let taken : IsNoneLeft s (chosen ++ c.args.from ∷ []) (c.args.from + 1) =
    subst P (take_more_set c.args.choice.now c.args.count c.args.from within) (c.is_found-2.ensures.none c.if-is_found.false) in
    let passed : IsNoneLeft s chosen (c.args.from + 1) = subst P kept (c.is_found-3.ensures.none e) in
    none-either s chosen c.args.from (omega (arith, places, safe, first, inverse, room)) taken passed

pub returns-clause-choice : goal.returns-clause-choice
returns-clause-choice t c =
    c.is_found-3.ensures.choice ∙ choice-kept c.args.choice.now c.args.count c.args.from c.is_found-2.new.choice c.is_found-2.ensures.choice

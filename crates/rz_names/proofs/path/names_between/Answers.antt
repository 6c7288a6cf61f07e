use Rattle.std.proofs.Common.{◌≡◌, ℕ, Bool, true, false, eqb, cond, map, List, [], ◌∷◌, ◌++◌, Some, None, sym, ap, ◌∙◌, arith, rules}
use Rattle.std.specs.List.{list_all}
use Rattle.std.specs.Slice.Iter.{split_rest, split_done, split_callee, split_steps}
use Rattle.std.specs.declared.slice.Split.{Split}
use Rattle.std.specs.Fn.{CalledAt}
use Rattle.std.specs.Iterator.{Yields}
use denote.Param.Members.{Mut}
use denote.Ref.{Bor}
use Rattle.std.proofs.lemmas.Iterator.{YieldsList}
use Rattle.std.proofs.lemmas.Iterator.Splits.{YieldsList-from_slice_split}
use Rattle.std.proofs.lemmas.Iterator.Consumers.{YieldsList-turn, YieldsList-end}
use Rattle.std.proofs.lemmas.List.Folds.{list_all_at, list_all-append}
use Rattle.std.proofs.lemmas.List.{map-append}
use Rattle.std.proofs.lemmas.Grind.{common_steps}
use Rattle.rz_export_model.specs.Paths.{is_name, parts_of, all_names}
use Rattle.rz_names.proofs.path.names_between.Goals as goal

-- a list of names with one that is bad is no path
bad : (parts : List (List ℕ)) → list_all is_name parts ≡ false → all_names parts ≡ None
bad parts h = ap (λ b. cond b (Some parts) None) h

-- the names that were made are all of them
whole : (names seen parts : List (List ℕ)) → names ≡ seen → list_all is_name seen ≡ true → seen ≡ parts → all_names parts ≡ Some names
whole names seen parts made good is = ap all_names (sym is) ∙ ap (λ b. cond b (Some seen) None) good ∙ ap Some (sym made)

-- the parts that the iterator yields are those of the text; the first fact says which iterator
parts_yielded : {F : Type 0} {g : Mut F (Bor ℕ × Unit {0}) Bool} {s : Split ℕ F} {f : F} (t : Split ℕ F) (xs : List (Bor (List ℕ))) → Yields (split_steps g) s xs t → (text : List ℕ)
    → split_rest s ≡ text → split_done s ≡ false → split_callee s ≡ f → ((x : ℕ) (b : Bool) (q : F) → CalledAt g f x b q → (q ≡ f) × (b ≡ eqb x 47))
    → YieldsList (split_steps g) (λ x. x.now) s (parts_of text)
parts_yielded t xs y text rest done callee calls = YieldsList-from_slice_split _ (λ b. eqb b 47) text rest done callee calls

one_more : (seen : List (List ℕ)) (name : List ℕ) → list_all is_name seen ≡ true → is_name name ≡ true → list_all is_name (seen ++ name ∷ []) ≡ true
one_more seen name good h = grind (arith, list_all-append is_name seen (name ∷ []))

pub returns-then-not-is_good_name : goal.returns-then-not-is_good_name
returns-then-not-is_good_name c =
    let it = c.into_iter-part-iterator.ensures.into_iter_gives in
    let from = c.split-part-items.ensures in
    let all = parts_yielded _ _ c.loop-part.yielded_by c.args.text.now (ap split_rest it ∙ from.rest) (ap split_done it ∙ from.done) (ap split_callee it ∙ from.closure) (λ x b q k. search rules) in
    let turn = YieldsList-turn all c.loop-part.yielded _ c.loop-part.yielded_by _ _ c.in-Some.part c.in-Some.is c.next.ensures.steps in
    bad (parts_of c.args.text.now) (list_all_at is_name (parts_of c.args.text.now) _ c.in-Some.part.now turn.0 (ap is_name (sym turn.1) ∙ sym c.is_good_name.ensures ∙ c.if-not-is_good_name.true))

pub loop-part-preserved : goal.loop-part-preserved
loop-part-preserved c =
    let good : is_name c.in-Some.part.now ≡ true = cc in
    let seen = map-append (λ x. x.now) c.loop-part.yielded (c.in-Some.part ∷ []) in
    let pushed = c.in_ok-map_err.ensures in
    record {
      made = grind (arith, common_steps, seen, c.in_ok-from_bytes.ensures, c.loop-part.invariant.made);
      good = ap (list_all is_name) seen ∙ one_more (map (λ x. x.now) c.loop-part.yielded) c.in-Some.part.now c.loop-part.invariant.good good;
    }

pub returns : goal.returns
returns c =
    let it = c.into_iter-part-iterator.ensures.into_iter_gives in
    let from = c.split-part-items.ensures in
    let all = parts_yielded _ _ c.loop-part.yielded_by c.args.text.now (ap split_rest it ∙ from.rest) (ap split_done it ∙ from.done) (ap split_callee it ∙ from.closure) (λ x b q k. search rules) in
    let end = YieldsList-end all c.loop-part.yielded _ c.loop-part.yielded_by _ _ c.in-None.is c.next.ensures.steps in
    whole _ _ (parts_of c.args.text.now) c.loop-part.invariant.made c.loop-part.invariant.good end.0

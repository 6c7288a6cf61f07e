use Rattle.std.proofs.Common.{◌≡◌, ℕ, ◌+◌, ◌-◌, ◌≤◌, List, [], ◌∷◌, ◌++◌, length, take, drop, map, Some, None, slice_get, sym, ap, ◌∙◌, refl}
use Rattle.std.specs.Option.{option_copied}
use Rattle.std.proofs.lemmas.List.{map-append}
use Rattle.rz_export_model.specs.Paths.{Path}
use Rattle.rz_names.proofs.Places.{take-next, take-no_next}
use Rattle.rz_names.proofs.entries.moved_entries.Goals as goal
use Rattle.rz_names.proofs.entries.moved_entries.Goals.{in-Some+in_ok-path+in_ok-push, in_default}

-- one more entry
moved_next : (f : Path × ℕ → Path × ℕ) (es : List (Path × ℕ)) (start at : ℕ) (e : Path × ℕ) (moved new : List (Path × ℕ)) → start ≤ at → slice_get es at ≡ Some e
    → moved ≡ map f (take (at - start) (drop start es)) → new ≡ moved ++ f e ∷ [] → new ≡ map f (take (at + 1 - start) (drop start es))
moved_next f es start at e moved new le here so_far one_more =
    one_more ∙ ap (λ front. front ++ f e ∷ []) so_far ∙ sym (ap (map f) (take-next es start at e le here) ∙ map-append f (take (at - start) (drop start es)) (e ∷ []))

-- no more
moved_none : (f : Path × ℕ → Path × ℕ) (es : List (Path × ℕ)) (start at : ℕ) (moved : List (Path × ℕ)) → start ≤ at → slice_get es at ≡ None
    → moved ≡ map f (take (at - start) (drop start es)) → moved ≡ map f (take (at + 1 - start) (drop start es))
moved_none f es start at moved le none so_far = so_far ∙ sym (ap (map f) (take-no_next es start at le none))

pub same-moved : goal.same-moved
same-moved c = refl

pub same-moved-in-Continue-branch-2 : goal.same-moved-in-Continue-branch-2
same-moved-in-Continue-branch-2 c = refl

pub loop-at-preserved : goal.loop-at-preserved
loop-at-preserved c =
    let f : Path × ℕ → Path × ℕ = λ e. (c.args.to.now ++ drop (length c.args.names.now) e.0, e.1) in
    elim c.match-get.branch [
      | in-Some+in_ok-path+in_ok-push w ↦
          let path_is : w.in_ok-path.path ≡ c.args.to.now ++ drop (length c.args.names.now) w.in-Some.entry.now.0 = w.in_ok-path.ensures ∙ ap (λ k. c.args.to.now ++ drop (length c.args.names.now) k) w.names.ensures in
          let entry_is : w.new.result ≡ f w.in-Some.entry.now = w.new.ensures ∙ ap (λ p. (p, w.fid.result)) path_is ∙ ap (λ n. (c.args.to.now ++ drop (length c.args.names.now) w.in-Some.entry.now.0, n)) w.fid.ensures in
          w.moved-is ∙ moved_next f c.args.entries.now c.block_bounds-start.result.0 c.loop-at.at w.in-Some.entry.now c.loop-at.moved w.push.new.entries c.loop-at.auto.at (sym w.in-Some.ensures) c.loop-at.invariant
          (w.in_ok-push.ensures ∙ ap (λ e. c.loop-at.moved ++ e ∷ []) entry_is)
      | in_default w ↦
          let none : slice_get c.args.entries.now c.loop-at.at ≡ None = sym c.get.ensures ∙ ap option_copied w.in_default.is in
          w.moved-is ∙ moved_none f c.args.entries.now c.block_bounds-start.result.0 c.loop-at.at c.loop-at.moved c.loop-at.auto.at none c.loop-at.invariant
    ]

-- Replies to calls, by the paths that their texts spell.
use Rattle.std.proofs.Common.{◌≡◌, ℕ, true, false, cond, List, [], ◌∷◌, Option, Some, None, sym, ap, ◌∙◌, refl}
use Rattle.std.specs.Prelude.{unwrap_or, is_none}
use Rattle.std.specs.Option.{option_or, option_map_or, option_and_then}
use Rattle.rz_events.specs.declared.files.FileInfo.{FileInfo}
use Rattle.rz_events.specs.declared.tree.TreeCall.{TreeCall}
use Rattle.rz_events.specs.declared.tree.TreeCall.TheVariants as call
use Rattle.rz_events.specs.declared.tree.TreeReply.TheVariants as reply
use Rattle.rz_events.specs.declared.tree.TreeFault.{TreeFault}
use Rattle.rz_events.specs.declared.tree.TreeFault.TheVariants as fault
use Rattle.rz_export_model.specs.Firsts.{first_of, given_if}
use Rattle.rz_export_model.specs.Paths.{Path, path_of, is_root}
use Rattle.rz_export_model.specs.Tree.{Tree, fid_at, moved}
use Rattle.rz_export_model.specs.Refusals.{path_in, unreadable, unreadable_or_root, walk, absent, dir, present, too_many_links, into_itself, not_replaceable, is_same_object, refusal}
use Rattle.rz_export_model.specs.TreeCalls.{answer_to, changed_by, reply_to, tree_after, last_name_of, replaced, renamed, with_name, without_name}
use Rattle.rz_tree.specs.Calls.{proper_path_of}
use Rattle.rz_tree.proofs.Keys.{same_some, not_none}

pub proper-some : (text : List ℕ) (p : Path) → proper_path_of text ≡ Some p → (unreadable_or_root text ≡ None) × (path_in text ≡ p)
proper-some text p h = go (path_of text) h
  where
    go : (o : Option Path) → option_and_then (λ (x : Path). cond (is_root x) None (Some x)) o ≡ Some p → (given_if (is_root (unwrap_or o [])) fault.BadName ≡ None) × (unwrap_or o [] ≡ p)
    go None h = absurd (not_none p (sym h))
    go (Some []) h = absurd (not_none p (sym h))
    go (Some (n ∷ q)) h = (refl, same_some (n ∷ q) p h)

proper-none : (text : List ℕ) → proper_path_of text ≡ None → unreadable_or_root text ≡ Some fault.BadName
proper-none text h = go (path_of text) h
  where
    go : (o : Option Path) → option_and_then (λ (x : Path). cond (is_root x) None (Some x)) o ≡ None → given_if (is_root (unwrap_or o [])) fault.BadName ≡ Some fault.BadName
    go None h = refl
    go (Some []) h = refl
    go (Some (n ∷ q)) h = absurd (not_none (n ∷ q) h)

pub proper-below : (text : List ℕ) (p : Path) → proper_path_of text ≡ Some p → is_root p ≡ false
proper-below text p h = go (path_of text) h
  where
    go : (o : Option Path) → option_and_then (λ (x : Path). cond (is_root x) None (Some x)) o ≡ Some p → is_root p ≡ false
    go None h = absurd (not_none p (sym h))
    go (Some []) h = absurd (not_none p (sym h))
    go (Some (n ∷ q)) h = ap is_root (sym (same_some (n ∷ q) p h))

-- the first fault of a call of one path; `rest` gives the first one of the others
module _ (text : List ℕ) (rest : Path → Option TreeFault) where
  pub spells-none : path_of text ≡ None → option_or (unreadable text) (rest (path_in text)) ≡ Some fault.BadName
  spells-none h = ap (λ o. option_or (given_if (is_none o) fault.BadName) (rest (path_in text))) h

  pub spells-some : (p : Path) (r : Option TreeFault) → path_of text ≡ Some p → rest p ≡ r → option_or (unreadable text) (rest (path_in text)) ≡ r
  spells-some p r at h = ap (λ o. option_or (given_if (is_none o) fault.BadName) (rest (unwrap_or o []))) at ∙ h

-- the same of a call whose first path is not the root; `rest` gives the first one of the others
module _ (text : List ℕ) (rest : Path → Option TreeFault) where
  pub unreadable-refusal : proper_path_of text ≡ None → option_or (unreadable_or_root text) (rest (path_in text)) ≡ Some fault.BadName
  unreadable-refusal h = ap (λ o. option_or o (rest (path_in text))) (proper-none text h)

  pub path-refusal : (p : Path) (r : Option TreeFault) → proper_path_of text ≡ Some p → rest p ≡ r → option_or (unreadable_or_root text) (rest (path_in text)) ≡ r
  path-refusal p r at h = let a = proper-some text p at in ap (λ o. option_or o (rest (path_in text))) a.0 ∙ ap rest a.1 ∙ h

module _ (t : Tree) (c : TreeCall) where
  pub reply-refused : (f : TreeFault) → refusal t c ≡ Some f → reply.Refused f ≡ reply_to t 0 [] c
  reply-refused f is = sym (ap (λ r. option_map_or reply.Refused r (answer_to t 0 [] c)) is)

  pub tree-refused : (f : TreeFault) → refusal t c ≡ Some f → t ≡ tree_after t 0 [] c
  tree-refused f is = sym (ap (λ r. option_map_or (λ (x : TreeFault). t) r (changed_by t 0 [] c)) is)

  pub reply-done : refusal t c ≡ None → answer_to t 0 [] c ≡ reply_to t 0 [] c
  reply-done is = sym (ap (λ r. option_map_or reply.Refused r (answer_to t 0 [] c)) is)

  pub tree-done : refusal t c ≡ None → changed_by t 0 [] c ≡ tree_after t 0 [] c
  tree-done is = sym (ap (λ r. option_map_or (λ (x : TreeFault). t) r (changed_by t 0 [] c)) is)

-- the faults of a link and of a rename, where both texts spell paths
abbrev pub link_fault : Tree → Path → Path → Option TreeFault
link_fault t x y = first_of (walk t x ∷ absent t x ∷ dir t x ∷ walk t y ∷ present t y ∷ too_many_links t x ∷ [])

abbrev pub rename_fault : Tree → Path → Path → Option TreeFault
rename_fault t x y = first_of (walk t x ∷ absent t x ∷ into_itself t x y ∷ walk t y ∷ not_replaceable t x y ∷ [])

-- the first fault of a call of two paths; `both` gives the first one where both texts spell a path
module _ (text to : List ℕ) (both : Path → Path → Option TreeFault) where
  pub first-unreadable : proper_path_of text ≡ None → option_or (unreadable_or_root text) (option_or (unreadable_or_root to) (both (path_in text) (path_in to))) ≡ Some fault.BadName
  first-unreadable h = unreadable-refusal text (λ x. option_or (unreadable_or_root to) (both x (path_in to))) h

  pub second-unreadable : (p : Path) → proper_path_of text ≡ Some p → proper_path_of to ≡ None →
      option_or (unreadable_or_root text) (option_or (unreadable_or_root to) (both (path_in text) (path_in to))) ≡ Some fault.BadName
  second-unreadable p at h = path-refusal text (λ x. option_or (unreadable_or_root to) (both x (path_in to))) p (Some fault.BadName) at (unreadable-refusal to (both p) h)

  both-refusal : (p q : Path) (r : Option TreeFault) → proper_path_of text ≡ Some p → proper_path_of to ≡ Some q → both p q ≡ r →
      option_or (unreadable_or_root text) (option_or (unreadable_or_root to) (both (path_in text) (path_in to))) ≡ r
  both-refusal p q r at at_to h = path-refusal text (λ x. option_or (unreadable_or_root to) (both x (path_in to))) p r at (path-refusal to (both p) q r at_to h)

module _ (t : Tree) (text to : List ℕ) (p q : Path) (at : proper_path_of text ≡ Some p) (at_to : proper_path_of to ≡ Some q) where
  pub link-refusal : (r : Option TreeFault) → link_fault t p q ≡ r → refusal t (call.Link text to) ≡ r
  link-refusal r h = both-refusal text to (link_fault t) p q r at at_to h

  pub link-changed : (fid : ℕ) → fid_at t p ≡ Some fid → with_name t q fid ≡ changed_by t 0 [] (call.Link text to)
  link-changed fid number =
      let a = proper-some text p at in
      let b = proper-some to q at_to in
      sym (ap (λ f. option_map_or (λ x. with_name t q x) f t) number)
      ∙ ap (λ x. option_map_or (λ y. with_name t q y) (fid_at t x) t) (sym a.1)
      ∙ ap (λ z. option_map_or (λ y. with_name t z y) (fid_at t (path_in text)) t) (sym b.1)

  pub rename-refusal : (r : Option TreeFault) → rename_fault t p q ≡ r → refusal t (call.Rename text to) ≡ r
  rename-refusal r h = both-refusal text to (rename_fault t) p q r at at_to h

  gone_is : (o : Option FileInfo) → o ≡ replaced t p q → reply.Gone o ≡ answer_to t 0 [] (call.Rename text to)
  gone_is o is =
      let a = proper-some text p at in
      let b = proper-some to q at_to in
      ap reply.Gone (is ∙ ap (λ x. replaced t x q) (sym a.1) ∙ ap (replaced t (path_in text)) (sym b.1))

  -- a rename of an object onto a path of its own
  pub gone-same : is_same_object t p q ≡ true → reply.Gone None ≡ answer_to t 0 [] (call.Rename text to)
  gone-same same = gone_is None (sym (ap (λ b. cond b None (last_name_of t q)) same))

  pub gone-other : is_same_object t p q ≡ false → (o : Option FileInfo) → o ≡ last_name_of t q → reply.Gone o ≡ answer_to t 0 [] (call.Rename text to)
  gone-other two o is = gone_is o (is ∙ sym (ap (λ b. cond b None (last_name_of t q)) two))

  pub rename-changed : renamed t p q ≡ changed_by t 0 [] (call.Rename text to)
  rename-changed =
      let a = proper-some text p at in
      let b = proper-some to q at_to in
      ap (λ x. renamed t x q) (sym a.1) ∙ ap (renamed t (path_in text)) (sym b.1)

  pub rename-kept : is_same_object t p q ≡ true → t ≡ changed_by t 0 [] (call.Rename text to)
  rename-kept same =
      let rest : Tree = without_name t q in
      let other : Tree = record rest { names = moved p q rest.names } in
      sym (ap (λ b. cond b t other) same) ∙ rename-changed

-- The blocks that a node has to hold, one by one, after a legal log.
use Rattle.std.proofs.Common.{ℕ, Bool, true, false, ◌≡◌, ◌+◌, is_some, List, Option, Some, None, cond, refl, sym, ◌∙◌, ap, subst, arith}
use Rattle.std.specs.Prelude.{slice_get}
use Rattle.std.specs.Option.{option_map, option_and_then}
use Rattle.std.specs.FinMap as maps
use Rattle.std.specs.FinMap.{get-entries, entries_sorted}
use Rattle.std.specs.Ordering.{is_lt}
use Rattle.rz_events.specs.Volume.{Volume}
use Rattle.rz_events.specs.declared.keys.Key.{Key}
use Rattle.rz_events.specs.declared.keys.Actor.{Actor}
use Rattle.rz_events.specs.declared.files.FileInfo.{FileInfo}
use Rattle.rz_events.specs.declared.files.Published.{Published}
use Rattle.rz_events.specs.declared.files.Listed.{Listed}
use Rattle.rz_events.specs.declared.export.Call.TheVariants as call
use Rattle.rz_events.specs.declared.events.Event.{Event}
use Rattle.rz_events.specs.declared.events.Event.TheVariants as e
use Rattle.rz_export_model.specs.Firsts.{first_given, given_if}
use Rattle.rz_export_model.specs.Tree.{file_of}
use Rattle.rz_export_model.specs.Export.{Export as ExportState, Block, is_after, listed_at, is_on, next_on}
use Rattle.rz_core.specs.History.{facts}
use Rattle.rz_events.specs.Masks.{HasBit}
use Rattle.rz_core.specs.ExportRows.{IsListed, IsAfter, ListedRow, NextRow}
use Rattle.rz_core.specs.Tied.{IsExportStep, IsExportLawOf}
use Rattle.rz_core.proofs.Stamps.{export}
use Rattle.rz_core.proofs.NodeSteps.{the_some}
use Rattle.rz_core.proofs.ExportSteps.{same-export}
use Rattle.rz_core.proofs.ExportCalls.{Before}
use Rattle.rz_core.proofs.ExportLooks.{AreNamed, IsNaming, named, tied-blocks, is-live}
use Rattle.rz_core.proofs.Keys.{less-is}
use Rattle.rz_core.proofs.Listings.{none-given, first-given, named-at, at-named}

-- what is listed of a published block
abbrev listed_as : Key → FileInfo → Published → Listed
listed_as key info p = record { key = key; info = info; published = p }

-- what an entry gives, where its key is after `after` and its file is live
abbrev gives : ExportState → ℕ → Option Key → Key × Block → Option Listed
gives s node after x = cond (is_after after x.0) (option_and_then (λ l. given_if (is_on node l) l) (listed_at s.tree x.0 x.1)) None

after-is : (after : Option Key) (key : Key) → is_after after key ≡ true → IsAfter after key
after-is None key is = tt
after-is (Some a) key is = less-is a key is

is-after : (after : Option Key) (key : Key) → IsAfter after key → is_after after key ≡ true
is-after None key is = refl
is-after (Some a) key is = ap is_lt is

-- what an entry says that gives something
record Says (s : ExportState) (node : ℕ) (after : Option Key) (key : Key) (block : Block) (l : Listed) : Type 0 where
  later : is_after after key ≡ true
  info : FileInfo
  file : file_of s.tree key.fid ≡ Some info
  published : Published
  told : block.published ≡ Some published
  same : listed_as key info published ≡ l
  on : is_on node (listed_as key info published) ≡ true

says : (s : ExportState) (node : ℕ) (after : Option Key) (key : Key) (block : Block) (l : Listed) → gives s node after (key, block) ≡ Some l → Says s node after key block l
says s node after key block l is = go (is_after after key) refl (file_of s.tree key.fid) refl block.published refl is
  where
    by_on : is_after after key ≡ true → (info : FileInfo) → file_of s.tree key.fid ≡ Some info → (p : Published) → block.published ≡ Some p
        → (t : Bool) → is_on node (listed_as key info p) ≡ t → given_if t (listed_as key info p) ≡ Some l → Says s node after key block l
    by_on later info file p told true on is = record { later = later; info = info; file = file; published = p; told = told; same = the_some _ l is; on = on }
    by_on later info file p told false on is = cc

    go : (t : Bool) → is_after after key ≡ t → (o : Option FileInfo) → file_of s.tree key.fid ≡ o → (q : Option Published) → block.published ≡ q
        → cond t (option_and_then (λ l. given_if (is_on node l) l) (option_and_then (λ info. option_map (listed_as key info) q) o)) None ≡ Some l → Says s node after key block l
    go true later (Some info) file (Some p) told is = by_on later info file p told (is_on node (listed_as key info p)) refl is
    go true later (Some info) file None told is = cc
    go true later None file q told is = cc
    go false later o file q told is = cc

module _ (v : Volume) (h : List Event) (s : ExportState) (b : Before v h s) (n : AreNamed (facts h) (export h) s) (node : ℕ) (after : Option Key) where
  -- a block that is listed has an entry, and it gives something
  module _ (key : Key) (p : Published) (later : IsAfter after key) (listed : IsListed (facts h) (export h) node key p) where
    on : (info : FileInfo) → file_of s.tree key.fid ≡ Some info → is_on node (listed_as key info p) ≡ true
    on info file =
        let (q, bit, (places, is, at)) = listed.named in
        let same : places ≡ info.places = the_places (sym is ∙ n.places key.fid info file) in
        let first : q ≡ 0 + q = omega arith in
        at-named node p.mask 0 info.places q (subst (HasBit p.mask) first bit) (ap (λ ps. slice_get ps q) (sym same) ∙ at)
      where
        the_places : {a c : List ℕ} → Some a ≡ Some c → a ≡ c
        the_places q = cc

    some_given : (block : Block) → block.published ≡ Some p → (o : Option FileInfo) → file_of s.tree key.fid ≡ o → ¬ (gives s node after (key, block) ≡ None)
    some_given block told None file none =
        let here = sym (n.live key.fid) ∙ ap (λ (o : Option FileInfo). is_some o) file in
        let live = listed.live in cc
    some_given block told (Some info) file none =
        let l = listed_as key info p in
        let given : gives s node after (key, block) ≡ Some l =
        ap (λ t. cond t (option_and_then (λ l. given_if (is_on node l) l) (listed_at s.tree key block)) None) (is-after after key later)
        ∙ ap (λ (o : Option FileInfo). option_and_then (λ l. given_if (is_on node l) l) (option_and_then (λ info. option_map (listed_as key info) block.published) o)) file
        ∙ ap (λ (o : Option Published). option_and_then (λ l. given_if (is_on node l) l) (option_map (listed_as key info) o)) told
        ∙ ap (λ t. given_if t l) (on info file) in
        cc

    not_silent : ((block : Block) → maps.get s.blocks key ≡ Some block → gives s node after (key, block) ≡ None) → ⊥
    not_silent silent = go (maps.get s.blocks key) refl ((tied-blocks v h s b key listed.live).told ∙ sym listed.told)
      where
        go : (o : Option Block) → maps.get s.blocks key ≡ o → option_and_then (λ (z : Block). z.published) o ≡ Some p → ⊥
        go None is told = cc
        go (Some block) is told = some_given block told (file_of s.tree key.fid) refl (silent block is)

  first_row : (l : Listed) → first_given (gives s node after) (maps.entries s.blocks) ≡ Some l → ListedRow v (facts h) (export h) node after l
  first_row l is =
      let f = first-given (gives s node after) (maps.entries s.blocks) (entries_sorted s.blocks) l is in
      let a = says s node after f.key f.block l f.gives in
      let live = is-live (facts h) (export h) s n f.key.fid a.info a.file in
      let here = get-entries s.blocks f.key ∙ f.there in
      let on = named-at node a.published.mask 0 a.info.places a.on in
      let place : 0 + on.place ≡ on.place = omega arith in
      subst (ListedRow v (facts h) (export h) node after) a.same
      (record {
        listed = record {
          live = live;
          told = sym (ap (λ (o : Option Block). option_and_then (λ (z : Block). z.published) o) here ∙ a.told) ∙ (tied-blocks v h s b f.key live).told;
          named = (on.place, subst (HasBit a.published.mask) place on.bit, (a.info.places, n.places f.key.fid a.info a.file, on.at));
        };
        later = after-is after f.key a.later;
        least = λ key p later less listed. not_silent key p later listed (λ block there. f.least key block less (sym (get-entries s.blocks key) ∙ there));
        file = ap (λ (z : ExportState). file_of z.tree f.key.fid) (sym b.tied) ∙ a.file;
      })

  next_row : (o : Option Listed) → next_on s node after ≡ o → NextRow v (facts h) (export h) node after o
  next_row None none = λ key p later listed. not_silent key p later listed
      (λ block there. none-given (gives s node after) (maps.entries s.blocks) none key block (sym (get-entries s.blocks key) ∙ there))
  next_row (Some l) is = first_row l is

  listing : (by : Actor) → IsExportStep v h (e.Next by node after (next_on s node after)) s
  listing by = record {
    allowed = λ run. record { room = b.room; word = tt; row = next_row (next_on s node after) refl };
    tied = b.tied ∙ sym (same-export v (e.Next by node after (next_on s node after)) h b.legal);
  }

pub export-next : (v : Volume) → IsNaming v → (node : ℕ) (after : Option Key) → IsExportLawOf v (call.Next node after)
export-next v naming node after h by s x legal tied room proper is =
    let b : Before v h s = record { legal = legal; tied = tied; room = room } in
    subst (λ y. IsExportStep v h y s) (the_some _ x is) (listing v h s b (named v naming h s b) node after by)

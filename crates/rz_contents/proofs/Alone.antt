-- What a put makes of the contents of blocks, where nobody acts beside it.
use Rattle.std.proofs.Common.{ℕ, ◌≡◌, inl, inr, ◌+◌, ◌*◌, List, [], ◌∷◌, ◌++◌, length, Option, Some, None, cond, refl, sym, ◌∙◌, ap, subst, arith}
use Rattle.std.proofs.lemmas.Bool.{eq-eqb}
use Rattle.mj_angles.specs.Layout.{block_bytes_of}
use Rattle.rz_events.specs.Volume.{Volume}
use Rattle.rz_events.specs.declared.keys.Key.{Key}
use Rattle.rz_events.specs.declared.keys.Actor.{Actor}
use Rattle.rz_events.specs.declared.ends.WriteEnd.{WriteEnd}
use Rattle.rz_events.specs.declared.ends.WriteEnd.TheVariants as write
use Rattle.rz_events.specs.declared.events.Word.TheVariants.{Export}
use Rattle.rz_events.specs.declared.events.Event.{Event}
use Rattle.rz_events.specs.declared.events.Event.TheVariants as e
use Rattle.rz_events.specs.Events.{same_key}
use Rattle.rz_export_model.specs.Tree.{Tree, grown}
use Rattle.rz_operation_model.specs.Work.{Alone, Writing}
use Rattle.rz_core.specs.History.{Has, Begun, wrote, begun_by, first_some, facts, of_word, length_in}
use Rattle.rz_core.specs.ExportWord.{last_drawn}
use Rattle.rz_core.specs.Legal.{IsLegalInRuns}
use Rattle.rz_core.proofs.Extends.{wrote-more}
use Rattle.rz_core.proofs.Stamps.{export, drawn}
use Rattle.rz_log_laws.proofs.Calls.{same-volume}
use Rattle.rz_contents.specs.Contents.{text_begun, contents}
use Rattle.rz_contents.specs.Model.{export_at, model_of, IsSame}
use Rattle.rz_contents.specs.Putting.{IsPublished, IsEnded, IsPutStage, model_put, IsPutAlone}
use Rattle.rz_contents.proofs.Changing.{changed}
use Rattle.rz_contents.proofs.Stillness.{names, still}
use Rattle.rz_contents.proofs.Putting.{puts_once}

-- a begin that stands in a legal history says what its stamp began with
begun-wrote : (v : Volume) (h : List Event) → IsLegalInRuns v h → (by : Actor) (key : Key) (s base : ℕ) (text : List ℕ) → Has h (e.Begin by key s base text)
    → (b : Begun) × (wrote h s ≡ Some b) × (b.text ≡ text)
begun-wrote v [] legal by key s base text has = absurd has
begun-wrote v (x ∷ h) legal by key s base text (inl is) =
    let legal' = subst (λ y. IsLegalInRuns v (y ∷ h)) is legal in
    subst (λ y. (b : Begun) × (wrote (y ∷ h) s ≡ Some b) × (b.text ≡ text)) (sym is)
    (go legal'.1.row.next (wrote h s) refl)
  where
    go : s ≡ last_drawn (export h) + 1 → (o : Option Begun) → wrote h s ≡ o
        → (b : Begun) × (first_some (wrote h s) (begun_by s (e.Begin by key s base text)) ≡ Some b) × (b.text ≡ text)
    go next (Some b) k = let l = drawn v h legal.0 s b k in absurd (omega (arith, next, l))
    go next None k = (record { by = by; key = key; base = base; text = text }, (rw (k, eq-eqb s s refl) refl), refl)
begun-wrote v (x ∷ h) legal by key s base text (inr has) =
    let i = begun-wrote v h legal.0 by key s base text has in (i.0, wrote-more (x ∷ []) h s i.0 i.1, i.2)

has-more : (xs old : List Event) (x : Event) → Has xs x → Has (xs ++ old) x
has-more [] old x has = absurd has
has-more (y ∷ xs) old x (inl is) = inl is
has-more (y ∷ xs) old x (inr has) = inr (has-more xs old x has)

module _ (v : Volume) (old xs : List Event) (by : Actor) (at : Key) (text : List ℕ) where
  -- the put was acknowledged
  acknowledged : (stamp mask : ℕ) → IsLegalInRuns v (xs ++ old) → IsPublished by xs at stamp mask text
      → IsSame (model_put v.layout (write.Acked stamp mask) at text (model_of v old)) (model_of v (xs ++ old))
  acknowledged stamp mask legal is =
      let x : Event = e.Publish by at stamp mask None in
      let h : List Event = is.earlier ++ old in
      let legal' = subst (λ (z : List Event). IsLegalInRuns v (z ++ old)) is.xs_is legal in
      let begun = begun-wrote v h legal'.0 by at stamp is.begun.0 text (has-more is.earlier old (e.Begin by at stamp is.begun.0 text) is.begun.1) in
      let before = still v is.earlier old legal'.0 is.still in
      let size : length_in (wrote h stamp) ≡ length text = ap length_in begun.1 ∙ ap (λ (t : List ℕ). length t) begun.2 in
      let s = export_at v h in
      record {
        names = ap (λ (z : List Event). (export_at v (z ++ old)).tree) is.xs_is
            ∙ (names v x h legal').0
            ∙ ap (λ (u : Volume). grown s.tree at.fid (at.block * block_bytes_of u.layout + length_in (wrote h stamp))) (same-volume v (facts h) (of_word Export h))
            ∙ ap (λ (n : ℕ). grown s.tree at.fid (at.block * block_bytes_of v.layout + n)) size
            ∙ ap (λ (t : Tree). grown t at.fid (at.block * block_bytes_of v.layout + length text)) before.names;
        blocks = λ key. ap (λ (z : List Event). contents (z ++ old) key) is.xs_is
            ∙ changed v x h key legal'
            ∙ ap (λ t. cond (same_key key at) t (contents h key)) (ap text_begun begun.1 ∙ ap Some begun.2)
            ∙ ap (λ c. cond (same_key key at) (Some text) c) (before.blocks key);
      }

  pub ended : (end : WriteEnd) → IsLegalInRuns v (xs ++ old) → IsEnded by xs at text end → IsSame (model_put v.layout end at text (model_of v old)) (model_of v (xs ++ old))
  ended (write.Acked stamp mask) legal is = acknowledged stamp mask legal is
  ended end legal is = let same = still v xs old legal is in record { names = same.names; blocks = same.blocks }

pub put_alone : (v : Volume) → IsPutAlone v
put_alone v old xs by number path block text s end legal course is =
    let put = puts_once v.layout by number path block text xs (Writing Alone text s) course in
    ended v old xs by s.key text end legal (subst (λ g. IsPutStage by xs s.key text g) is put.2)

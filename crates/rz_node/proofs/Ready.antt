-- Facts of a node that is up.
use Rattle.std.proofs.Common.{◌≡◌, ℕ, zero, suc, ◌≤◌, List, [], ◌∷◌, ◌++◌, length, take, drop, Option, Some, refl, sym, ◌∙◌, ap, subst, arith}
use Rattle.std.specs.FinMap as maps
use Rattle.std.proofs.lemmas.List.{length-take-le}
use Rattle.mj_angles.specs.declared.layout.Layout.{Layout}
use Rattle.mj_angles.specs.Layout.{bins_at_of, max_bins_of}
use Rattle.rz_events.specs.declared.nodes.Phase.{Phase}
use Rattle.rz_events.specs.declared.nodes.Phase.TheVariants.{Up}
use Rattle.rz_events.specs.Keys.{key_cmp}
use Rattle.rz_events.specs.declared.keys.Key.{Key}
use Rattle.rz_events.specs.declared.records.Head.{Head}
use Rattle.rz_events.specs.declared.records.Held.{Held}
use Rattle.rz_events.specs.declared.nodes.FetchAnswer.TheVariants as fetch
use Rattle.rz_record.specs.Record.{bins_of}
use Rattle.rz_record.specs.Slot.{Rec}
use Rattle.rz_cells_slots.specs.Held.{Records}
use Rattle.rz_index.specs.declared.index.Entry.{Entry}
use Rattle.rz_node_model.specs.declared.pending.Pending.{Pending}
use Rattle.rz_node_model.specs.Answers.{fetch_answer, fetch_found}
use Rattle.rz_node_model.specs.Records.{record_of, held_of, found}
use Rattle.rz_node.specs.Kept.{held_by}
use Rattle.rz_node.specs.View.{IsReady, state_of}

pub ready-up : (phase : Phase) (P Q : Type 0) → phase ≡ Up → IsReady phase P Q → P
ready-up phase P Q is ready = subst (λ (p : Phase). IsReady p P Q) is ready

pub bins-fit : (y z : Layout) (count room : ℕ) → count ≤ max_bins_of y → y ≡ z → max_bins_of z ≤ room → count ≤ room
bins-fit y z count room le same fits = let le' : count ≤ max_bins_of z = subst (λ (x : Layout). count ≤ max_bins_of x) same le in omega (arith, le', fits)

-- where the record of a stamp is found, a node that is up answers with it
pub fetch-holds : (phase : Phase) (losses : ℕ) (undecided : Option Pending) (fence : ℕ) (entries : maps.FinMap key_cmp Entry) (heads : List (Option Head)) (key : Key) (stamp : ℕ) (r : Held)
    → phase ≡ Up → Some r ≡ found stamp (held_of (held_by entries heads) key) → fetch_answer (state_of phase losses undecided fence entries heads) key stamp ≡ fetch.Held r
fetch-holds phase losses undecided fence entries heads key stamp r up is =
    subst (λ (p : Phase). fetch_answer (state_of p losses undecided fence entries heads) key stamp ≡ fetch.Held r) (sym up) (ap fetch_found (sym is))

take-all : (xs : List ℕ) (n : ℕ) → n ≡ length xs → take n xs ≡ xs
take-all [] zero is = refl
take-all [] (suc n) is = refl
take-all (x ∷ xs) zero is = absurd (omega arith)
take-all (x ∷ xs) (suc n) is = ap (λ (ys : List ℕ). x ∷ ys) (take-all xs n (omega arith))

pub count-is : (h : Head) (n : ℕ) → n ≡ bins_at_of h.layout h.position → n ≡ bins_of h
unfolding bins_of
count-is h n is = is

-- the bins that were read are the record's, and stand in front of what was there
pub gives-bins : (records : Records) (key : Key) (h : Head) (r : Rec) (n count : ℕ) (out out' : List ℕ) → count ≤ length out → length out' ≡ length (take count out) → count ≡ bins_at_of h.layout h.position → n ≡ bins_of h
    → h.key ≡ key → records h.key h.stamp ≡ Some r → record_of r.head ≡ record_of h → take n out' ≡ r.bins
    → (x : Rec) × (records key h.stamp ≡ Some x) × (record_of x.head ≡ record_of h) × (out' ++ drop count out ≡ x.bins ++ drop (length x.bins) out)
gives-bins records key h r n count out out' le long count_is n_is named held same bins =
    let long' : length out' ≡ count = long ∙ length-take-le count out le in
    let all : out' ≡ r.bins = sym (take-all out' n (n_is ∙ sym (count-is h count count_is) ∙ sym long')) ∙ bins in
    let size : count ≡ length r.bins = sym long' ∙ ap length all in
    (r, ap (λ (k : Key). records k h.stamp) (sym named) ∙ held, same, λ i. all i ++ drop (size i) out)

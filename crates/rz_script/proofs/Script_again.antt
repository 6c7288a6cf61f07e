-- A script that is printed is read again.
use Rattle.std.proofs.Common.{◌≡◌, ℕ, ◌^◌, ◌<◌, ◌≤◌, Bool, true, cond, List, [], ◌∷◌, ◌++◌, length, codes, Some, Result, Ok, Err, refl, sym, ap, ◌∙◌, arith, lit≤}
use lib.Utf8.{scalars, encodes, encode}
use Rattle.std.specs.Prelude.{All, IfOk, OnOk}
use Rattle.std.specs.Option.{option_and_then}
use Rattle.std.specs.List.{list_all, AllByRecursion, flat_map, join_by, join_with_byte}
use Rattle.std.specs.Fmt.{decimal}
use Rattle.std.specs.Global.{Vec}
use Rattle.std.specs.Str.{IsUtf8, is_utf8}
use Rattle.std.specs.declared.alloc.AllocError.{AllocError}
use Rattle.std.proofs.lemmas.List.{append-nil}
use Rattle.std.proofs.lemmas.List.Elements.{All-head, All-tail}
use Rattle.std.proofs.lemmas.List.Folds.{list_all-append}
use Rattle.std.proofs.lemmas.Str.{IsUtf8-append, IsUtf8-nil, is_utf8-from_IsUtf8}
use Rattle.json.specs.Token.{Token}
use Rattle.json.specs.Lex.{tokens}
use Rattle.json.specs.Json as json
use Rattle.json.specs.Tree.{json_tokens}
use Rattle.json.proofs.Printed.Tokens.{tokens-print}
use Rattle.json.proofs.Printed.Trees.{value-json_tokens, ArePrintable-json_tokens}
use Rattle.serde_json.specs.Read.{read as json_read, of_json}
use Rattle.mj_angles.specs.declared.layout.Layout.{Layout}
use Rattle.mj_angles.specs.declared.layout.Layout.TheVariants.{L0, L1, L2, L0B1, L0B2, L0B3, L1B1, L1B2, L1B3, L2B1, L2B2, L2B3}
use Rattle.mj_angles.specs.Layout.{number_of, block_bytes_of, safe_of}
use Rattle.rz_events.specs.declared.files.NodeSpec.{NodeSpec}
use Rattle.rz_events.specs.Volume.{Volume, Cluster, IsNode, IsCluster, IsVolume}
use Rattle.rz_config.specs.Plain.{plain_volume}
use Rattle.rz_config.specs.Described.{volume_of_value, volume_of_text}
use Rattle.rz_script_words.specs.Words.{Word}
use Rattle.rz_script.specs.declared.fault.ScriptError.{ScriptError}
use Rattle.rz_script.specs.declared.fault.ScriptError.TheVariants as errors
use Rattle.rz_script_words.specs.declared.fault.ScriptCause.TheVariants.{NotUtf8}
use Rattle.rz_script.specs.declared.line.Line.{Line}
use Rattle.rz_script_words.specs.declared.form.Form.{Form}
use Rattle.rz_script.specs.Scripts.{Script}
use Rattle.rz_script.specs.Lines.{is_plain, IsWord, AreLines, allows}
use Rattle.rz_script_words.specs.Grammar.{words, after_word}
use Rattle.rz_script.specs.Grammar.{lines, lines_from, with_lines, with_volume, described, given, head, by_head, headed, script}
use Rattle.rz_script.specs.Spelling.{node_text, cluster_text, description_text, volume_text, lines_text, script_text, AreShortNodes, AreShortClusters}
use Rattle.rz_script.proofs.Again.{words_joined, number_word, joined_text, first_line, lines_again, printed_text}
use Rattle.rz_script.proofs.Printed_volume.{volume_json, print_volume, SmallNode, SmallCluster, volume_numbers, volume_depth}
use Rattle.rz_script.proofs.Described_volume.{volume_data, volume_is, BoundNode, BoundCluster, volume_described, few_layouts}

-- ---- the bounds of the numbers of a volume

block_few : (y : Layout) → block_bytes_of y ≤ 32768
block_few L0 = lit≤ tt
block_few L1 = lit≤ tt
block_few L2 = lit≤ tt
block_few L0B1 = lit≤ tt
block_few L0B2 = lit≤ tt
block_few L0B3 = lit≤ tt
block_few L1B1 = lit≤ tt
block_few L1B2 = lit≤ tt
block_few L1B3 = lit≤ tt
block_few L2B1 = lit≤ tt
block_few L2B2 = lit≤ tt
block_few L2B3 = lit≤ tt

bound_nodes : (ns : List NodeSpec) → All IsNode ns → AreShortNodes ns → AllByRecursion BoundNode ns
bound_nodes [] h s = tt
bound_nodes (n ∷ ns) h s =
    let one = All-head IsNode n ns h in
    (record { sid_least = one.numbered; sid_most = s.0; cells_least = one.least_cells; cells_most = one.most_cells }, bound_nodes ns (All-tail IsNode n ns h) s.1)

bound_clusters : (safe : ℕ) (cs : List Cluster) → All (IsCluster safe) cs → AreShortClusters cs → AllByRecursion (BoundCluster safe) cs
bound_clusters safe [] h s = tt
bound_clusters safe (c ∷ cs) h s =
    let one = All-head (IsCluster safe) c cs h in
    (record { cid_least = one.numbered; cid_most = s.0.0; enough = one.enough_nodes; few = one.few_nodes; nodes = bound_nodes c.nodes one.nodes s.0.1 }, bound_clusters safe cs (All-tail (IsCluster safe) c cs h) s.1)

small_nodes : (ns : List NodeSpec) → AllByRecursion BoundNode ns → AllByRecursion SmallNode ns
small_nodes [] h = tt
small_nodes (n ∷ ns) h = (record { sid = h.0.sid_most; cells = h.0.cells_most }, small_nodes ns h.1)

small_clusters : (safe : ℕ) (cs : List Cluster) → AllByRecursion (BoundCluster safe) cs → AllByRecursion SmallCluster cs
small_clusters safe [] h = tt
small_clusters safe (c ∷ cs) h = (record { cid = h.0.cid_most; nodes = small_nodes c.nodes h.0.nodes }, small_clusters safe cs h.1)

-- ---- a volume

module _ (y : Layout) (cs : List Cluster) (small : AllByRecursion SmallCluster cs) where
  number_small : number_of y < 2 ^ 64
  number_small = let few = few_layouts y in omega (arith, few)

  block_small : block_bytes_of y < 2 ^ 64
  block_small = let few = block_few y in omega (arith, few)

  -- the text of the description is this JSON value
  json_again : json_read (description_text y cs) ≡ Some (volume_data y cs)
  json_again =
      let j = volume_json y cs in
      let ts = json_tokens j in
      ap (λ (t : List ℕ). option_and_then of_json (option_and_then (λ p. json.if_last p.0 p.1) (json.value 127 (tokens t)))) (sym (print_volume y cs))
      ∙ ap (λ (us : List Token). option_and_then of_json (option_and_then (λ p. json.if_last p.0 p.1) (json.value 127 us))) (tokens-print ts (ArePrintable-json_tokens j (volume_numbers y cs number_small block_small small)))
      ∙ ap (λ (us : List Token). option_and_then of_json (option_and_then (λ p. json.if_last p.0 p.1) (json.value 127 us))) (sym (append-nil ts))
      ∙ ap (λ o. option_and_then of_json (option_and_then (λ p. json.if_last p.0 p.1) o)) (value-json_tokens j 127 [] (volume_depth y cs))
      ∙ volume_is y cs number_small block_small small

bounds : (v : Volume) → IsVolume v → AreShortClusters v.clusters → AllByRecursion (BoundCluster (safe_of v.layout)) v.clusters
bounds v is short = bound_clusters (safe_of v.layout) v.clusters is.clusters short

volume_again : (v : Volume) → IsVolume v → AreShortClusters v.clusters → volume_of_text (volume_text v) ≡ Ok v
unfolding volume_of_text
volume_again v is short =
    let bound = bounds v is short in
    ap volume_of_value (json_again v.layout v.clusters (small_clusters (safe_of v.layout) v.clusters bound))
    ∙ volume_described v is.some_cluster is.few_clusters is.few_nodes is.distinct_cids is.distinct_sids bound

-- ---- the description is a word

record IsPlain (w : List ℕ) : Type 0 where
  plain : list_all is_plain w ≡ true
  text : IsUtf8 w

plain_literal : (w : List ℕ) → list_all is_plain w ≡ true → scalars w ≡ true → encodes w ≡ w → IsPlain w
plain_literal w p s e = record { plain = p; text = (w, (s, e)) }

plain_append : (a b : List ℕ) → IsPlain a → IsPlain b → IsPlain (a ++ b)
plain_append a b p q = record { plain = list_all-append is_plain a b ∙ rw (p.plain, q.plain) refl; text = IsUtf8-append a b p.text q.text }

plain_number : (n : ℕ) → n < 2 ^ 64 → IsPlain (decimal n)
plain_number n fits = let w = number_word n fits in record { plain = w.plain; text = w.text }

plain_nil : IsPlain []
plain_nil = record { plain = refl; text = IsUtf8-nil }

plain_node : (n : NodeSpec) → SmallNode n → IsPlain (node_text n)
unfolding node_text encode
plain_node n h =
    let sid = h.sid in
    let cells = h.cells in
    let end = plain_append (decimal n.cells) (codes "}") (plain_number n.cells (omega (arith, cells))) (plain_literal (codes "}") refl refl refl) in
    let mid = plain_append (codes ",\"cells\":") (decimal n.cells ++ codes "}") (plain_literal (codes ",\"cells\":") refl refl refl) end in
    plain_append (codes "{\"sid\":") (decimal n.sid ++ (codes ",\"cells\":" ++ (decimal n.cells ++ codes "}"))) (plain_literal (codes "{\"sid\":") refl refl refl)
    (plain_append (decimal n.sid) (codes ",\"cells\":" ++ (decimal n.cells ++ codes "}")) (plain_number n.sid (omega (arith, sid))) mid)

plain_more_nodes : (ns : List NodeSpec) → AllByRecursion SmallNode ns → IsPlain (flat_map (λ n. codes "," ++ node_text n) ns)
unfolding encode
plain_more_nodes [] h = plain_nil
plain_more_nodes (n ∷ ns) h =
    plain_append (codes "," ++ node_text n) (flat_map (λ n. codes "," ++ node_text n) ns) (plain_append (codes ",") (node_text n) (plain_literal (codes ",") refl refl refl) (plain_node n h.0)) (plain_more_nodes ns h.1)

plain_nodes : (ns : List NodeSpec) → AllByRecursion SmallNode ns → IsPlain (join_by node_text (codes ",") ns)
plain_nodes [] h = plain_nil
plain_nodes (n ∷ ns) h = plain_append (node_text n) (flat_map (λ n. codes "," ++ node_text n) ns) (plain_node n h.0) (plain_more_nodes ns h.1)

plain_cluster : (c : Cluster) → SmallCluster c → IsPlain (cluster_text c)
unfolding cluster_text encode
plain_cluster c h =
    let cid = h.cid in
    let nodes = join_by node_text (codes ",") c.nodes in
    let end = plain_append nodes (codes "]}") (plain_nodes c.nodes h.nodes) (plain_literal (codes "]}") refl refl refl) in
    let mid = plain_append (codes ",\"nodes\":[") (nodes ++ codes "]}") (plain_literal (codes ",\"nodes\":[") refl refl refl) end in
    plain_append (codes "{\"cid\":") (decimal c.cid ++ (codes ",\"nodes\":[" ++ (nodes ++ codes "]}"))) (plain_literal (codes "{\"cid\":") refl refl refl)
    (plain_append (decimal c.cid) (codes ",\"nodes\":[" ++ (nodes ++ codes "]}")) (plain_number c.cid (omega (arith, cid))) mid)

plain_more_clusters : (cs : List Cluster) → AllByRecursion SmallCluster cs → IsPlain (flat_map (λ c. codes "," ++ cluster_text c) cs)
unfolding encode
plain_more_clusters [] h = plain_nil
plain_more_clusters (c ∷ cs) h =
    plain_append (codes "," ++ cluster_text c) (flat_map (λ c. codes "," ++ cluster_text c) cs) (plain_append (codes ",") (cluster_text c) (plain_literal (codes ",") refl refl refl) (plain_cluster c h.0)) (plain_more_clusters cs h.1)

plain_clusters : (cs : List Cluster) → AllByRecursion SmallCluster cs → IsPlain (join_by cluster_text (codes ",") cs)
plain_clusters [] h = plain_nil
plain_clusters (c ∷ cs) h = plain_append (cluster_text c) (flat_map (λ c. codes "," ++ cluster_text c) cs) (plain_cluster c h.0) (plain_more_clusters cs h.1)

plain_description : (y : Layout) (cs : List Cluster) → AllByRecursion SmallCluster cs → IsPlain (description_text y cs)
unfolding description_text encode
plain_description y cs h =
    let clusters = join_by cluster_text (codes ",") cs in
    let d = plain_append clusters (codes "]}") (plain_clusters cs h) (plain_literal (codes "]}") refl refl refl) in
    let c = plain_append (codes ",\"clusters\":[") (clusters ++ codes "]}") (plain_literal (codes ",\"clusters\":[") refl refl refl) d in
    let b = plain_append (decimal (block_bytes_of y)) (codes ",\"clusters\":[" ++ (clusters ++ codes "]}")) (plain_number (block_bytes_of y) (block_small y cs h)) c in
    let a = plain_append (codes ",\"bsize\":") (decimal (block_bytes_of y) ++ (codes ",\"clusters\":[" ++ (clusters ++ codes "]}"))) (plain_literal (codes ",\"bsize\":") refl refl refl) b in
    plain_append (codes "{\"layout\":") (decimal (number_of y) ++ (codes ",\"bsize\":" ++ (decimal (block_bytes_of y) ++ (codes ",\"clusters\":[" ++ (clusters ++ codes "]}"))))) (plain_literal (codes "{\"layout\":") refl refl refl)
    (plain_append (decimal (number_of y)) (codes ",\"bsize\":" ++ (decimal (block_bytes_of y) ++ (codes ",\"clusters\":[" ++ (clusters ++ codes "]}")))) (plain_number (number_of y) (number_small y cs h)) a)

description_full : (y : Layout) (cs : List Cluster) → 0 < length (description_text y cs)
unfolding description_text
description_full y cs = omega arith

volume_word : (v : Volume) → AllByRecursion SmallCluster v.clusters → IsWord (volume_text v)
volume_word v h =
    let p = plain_description v.layout v.clusters h in
    record { full = description_full v.layout v.clusters; plain = p.plain; text = p.text }

-- ---- the whole script

spelled : (s : Script) → script_text s ≡ join_with_byte 32 (codes "volume" ∷ volume_text s.volume ∷ []) ++ (10 ∷ lines_text s.lines)
unfolding script_text
spelled s = refl

decided : (form : Form) (t : List ℕ) → is_utf8 t ≡ true → script form t ≡ headed form 1 (lines t)
unfolding script
decided form t h = ap (λ (b : Bool). cond b (headed form 1 (lines t)) (Err (errors.Script 1 NotUtf8))) h

-- what stands after the first word of a volume line
json_follows : (t : List ℕ) → after_word (codes "volume" ++ (32 ∷ t)) ≡ t
json_follows t = refl

begins : (form : Form) (vt : List ℕ) (more : List (List ℕ)) → IsWord (codes "volume") → IsWord vt
    → headed form 1 (join_with_byte 32 (codes "volume" ∷ vt ∷ []) ∷ more) ≡ given 1 (after_word (join_with_byte 32 (codes "volume" ∷ vt ∷ []))) (λ v. lines_from form v 2 more)
unfolding headed head
begins form vt more a b =
    let line = join_with_byte 32 (codes "volume" ∷ vt ∷ []) in
    ap (λ (ws : List Word). by_head (head ws) (headed form 2 more) (given 1 (after_word line) (λ v. lines_from form v 2 more)) (with_lines plain_volume (lines_from form plain_volume 1 (line ∷ more)))) (words_joined (codes "volume" ∷ vt ∷ []) (a, (b, tt)))

gives_volume : (form : Form) (v : Volume) (ls : List Line) (more : List (List ℕ)) → IsWord (volume_text v) → volume_of_text (volume_text v) ≡ Ok v → lines_from form v 2 more ≡ Ok ls
    → given 1 (after_word (join_with_byte 32 (codes "volume" ∷ volume_text v ∷ []))) (λ v. lines_from form v 2 more) ≡ Ok (record { volume = v; lines = ls })
unfolding given
gives_volume form v ls more w volume rest =
    let others : Volume → Result (List Line) ScriptError = λ v. lines_from form v 2 more in
    ap (λ (j : List ℕ). described 1 j (words j) others) (json_follows (volume_text v))
    ∙ ap (λ (ws : List Word). described 1 (volume_text v) ws others) (words_joined (volume_text v ∷ []) (w, tt))
    ∙ ap (λ r. with_volume r others) volume
    ∙ ap (with_lines v) rest

volume_literal : IsWord (codes "volume")
unfolding encode
volume_literal = record { full = omega arith; plain = refl; text = (codes "volume", (refl, refl)) }

feed_text : (t : List ℕ) → IsUtf8 t → IsUtf8 (10 ∷ t)
unfolding encode
feed_text t u = IsUtf8-append (10 ∷ []) t (10 ∷ [], (refl, refl)) u

pub script_again : (form : Form) (s : Script) → IsVolume s.volume → AreShortClusters s.volume.clusters → AreLines s.volume s.lines → list_all (allows form) s.lines ≡ true → script form (script_text s) ≡ Ok s
script_again form s is short limits allowed =
    let few = block_few s.volume.layout in
    let small : block_bytes_of s.volume.layout < 2 ^ 32 = omega (arith, few) in
    let bound = bounds s.volume is short in
    let word = volume_word s.volume (small_clusters (safe_of s.volume.layout) s.volume.clusters bound) in
    let ws = codes "volume" ∷ volume_text s.volume ∷ [] in
    let line = join_with_byte 32 ws in
    let text = line ++ (10 ∷ lines_text s.lines) in
    let utf8 : IsUtf8 text = IsUtf8-append line (10 ∷ lines_text s.lines) (joined_text ws (volume_literal, (word, tt))) (feed_text (lines_text s.lines) (printed_text s.volume s.lines small limits)) in
    ap (script form) (spelled s)
    ∙ decided form text (is_utf8-from_IsUtf8 text utf8)
    ∙ ap (headed form 1) (first_line ws (lines_text s.lines) (volume_literal, (word, tt)))
    ∙ begins form (volume_text s.volume) (lines (lines_text s.lines)) volume_literal word
    ∙ gives_volume form s.volume s.lines (lines (lines_text s.lines)) word (volume_again s.volume is short) (lines_again form s.volume 2 s.lines small limits allowed)

-- what `print` gives is read again
pub again_if : (r : Result (Vec ℕ) AllocError) (s : Script) → IfOk r (λ v. v.items ≡ script_text s) → OnOk r (IsVolume s.volume) → OnOk r (AreShortClusters s.volume.clusters) → AreLines s.volume s.lines
    → (form : Form) → list_all (allows form) s.lines ≡ true → IfOk r (λ v. script form v.items ≡ Ok s)
again_if (Ok v) s spelling is short limits form allowed = ap (script form) spelling ∙ script_again form s is short limits allowed
again_if (Err e) s spelling is short limits form allowed = tt

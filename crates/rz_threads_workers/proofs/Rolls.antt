-- The passes of all clients and rebuilders.
use Rattle.std.proofs.Common.{◌≡◌, ℕ, zero, suc, ◌+◌, List, [], ◌∷◌, ◌++◌, map, length, refl, sym, ap, ◌∙◌, arith}
use Rattle.std.proofs.lemmas.List.{length-map, map-append}
use Rattle.std.specs.List.{AllByRecursion, range_with_len}
use Rattle.rz_events.specs.declared.keys.Actor.{Actor}
use Rattle.rz_events.specs.declared.keys.Actor.TheVariants.{Client, Rebuilder}
use Rattle.rz_play.specs.World.{actors}
use Rattle.rz_chronicle.specs.Rules.{PassView}
use Rattle.rz_chronicle.specs.Dealing.{new_pass, ArePasses}
use Rattle.rz_threads_workers.specs.WorkerPool.{IsNewPass}

-- passes that are told one by one, as a row
dealt : (make : ℕ → Actor) (from n : ℕ) (ps : List PassView) → ArePasses n (λ i. make (i + from)) ps → ps ≡ map new_pass (map make (range_with_len from n))
dealt make from zero [] are = refl
dealt make from zero (p ∷ ps) are = (let long = are.0 in absurd (omega (arith, long)))
dealt make from (suc n) [] are = (let long = are.0 in absurd (omega (arith, long)))
dealt make from (suc n) (p ∷ ps) are =
    let long = are.0 in
    let none : 0 + from ≡ from = omega arith in
    let here : p ≡ new_pass (make from) = are.1 0 p (omega arith) ∙ ap (λ (k : ℕ). new_pass (make k)) none in
    let next : (i : ℕ) → suc i + from ≡ i + (from + 1) = (λ i. omega arith) in
    let rest : ArePasses n (λ i. make (i + (from + 1))) ps = (omega (arith, long), λ i d low. are.1 (suc i) d (omega (arith, low)) ∙ ap (λ (k : ℕ). new_pass (make k)) (next i)) in
    ap (λ (q : PassView). q ∷ ps) here ∙ ap (λ (qs : List PassView). new_pass (make from) ∷ qs) (dealt make (from + 1) n ps rest)

-- the passes of the clients, and then those of the rebuilders
pub all-dealt : (clients rebuilders : List PassView) → ArePasses 64 (λ i. Client (i + 1)) clients → ArePasses 16 (λ i. Rebuilder (i + 1)) rebuilders → clients ++ rebuilders ≡ map new_pass actors
all-dealt clients rebuilders first then =
    let one = dealt Client 1 64 clients first in
    let two = dealt Rebuilder 1 16 rebuilders then in
    ap (λ (ps : List PassView). ps ++ rebuilders) one ∙ ap (λ (ps : List PassView). map new_pass (map Client (range_with_len 1 64)) ++ ps) two
    ∙ sym (map-append new_pass (map Client (range_with_len 1 64)) (map Rebuilder (range_with_len 1 16)))

-- Each of these passes is new, and there are 80.

clients : (from count : ℕ) (more : List Actor) → AllByRecursion IsNewPass (map new_pass more) → AllByRecursion IsNewPass (map new_pass (map Client (range_with_len from count) ++ more))
clients from zero more all = all
clients from (suc count) more all = ((λ same. absurd (cc), refl), clients (from + 1) count more all)

rebuilders : (from count : ℕ) → AllByRecursion IsNewPass (map new_pass (map Rebuilder (range_with_len from count)))
rebuilders from zero = tt
rebuilders from (suc count) = ((λ same. absurd (cc), refl), rebuilders (from + 1) count)

pub all-new : AllByRecursion IsNewPass (map new_pass actors)
all-new = clients 1 64 (map Rebuilder (range_with_len 1 16)) (rebuilders 1 16)

pub eighty : length (map new_pass actors) ≡ 80
eighty = length-map actors new_pass ∙ refl

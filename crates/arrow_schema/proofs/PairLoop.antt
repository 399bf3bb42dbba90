-- Reading the pairs of custom metadata one after the other, as a loop does.
use Rattle.std.proofs.Common.{◌≡◌, ℕ, suc, ◌+◌, ◌-◌, ◌<◌, ◌≤◌, Result, Ok, Err, Option, refl, sym, ◌∙◌, arith}
use Rattle.flat_tables.specs.declared.fault.FlatFault.{FlatFault}
use Rattle.flat_tables.specs.Tables.{TableIn, VectorIn, element_table}
use Rattle.arrow_schema.specs.declared.spec.Encoding.{Encoding}
use Rattle.arrow_schema.specs.Reading.{of_pair, encoding_from}

abbrev pub Rest : VectorIn → ℕ → Encoding → Result Encoding FlatFault
Rest v place found = encoding_from v place (v.count - place) found

one_step : (v : VectorIn) (place : ℕ) (found next : Encoding) (o : Option TableIn) → place < v.count → element_table v place ≡ Ok o → of_pair found o ≡ Ok next
    → Rest v place found ≡ Rest v (place + 1) next
unfolding encoding_from
one_step v place found next o lt at pair =
    let k : v.count - place ≡ suc (v.count - (place + 1)) = omega arith in
    rw (k, at, pair) refl

pub pairs_go_on : (v : VectorIn) (place : ℕ) (found next : Encoding) (o : Option TableIn) (all : Result Encoding FlatFault) → place < v.count → element_table v place ≡ Ok o
    → of_pair found o ≡ Ok next → Rest v place found ≡ all → Rest v (place + 1) next ≡ all
pairs_go_on v place found next o all lt at pair so_far = sym (one_step v place found next o lt at pair) ∙ so_far

pub pair_lost : (v : VectorIn) (place : ℕ) (found : Encoding) (e : FlatFault) (all : Result Encoding FlatFault) → place < v.count → element_table v place ≡ Err e
    → Rest v place found ≡ all → Err e ≡ all
unfolding encoding_from
pair_lost v place found e all lt at so_far =
    let k : v.count - place ≡ suc (v.count - (place + 1)) = omega arith in
    let one : Rest v place found ≡ Err e = rw (k, at) refl in
    sym one ∙ so_far

pub pair_fails : (v : VectorIn) (place : ℕ) (found : Encoding) (o : Option TableIn) (e : FlatFault) (all : Result Encoding FlatFault) → place < v.count → element_table v place ≡ Ok o
    → of_pair found o ≡ Err e → Rest v place found ≡ all → Err e ≡ all
unfolding encoding_from
pair_fails v place found o e all lt at pair so_far =
    let k : v.count - place ≡ suc (v.count - (place + 1)) = omega arith in
    let one : Rest v place found ≡ Err e = rw (k, at, pair) refl in
    sym one ∙ so_far

pub pairs_end : (v : VectorIn) (place : ℕ) (found : Encoding) (all : Result Encoding FlatFault) → v.count ≤ place → Rest v place found ≡ all → Ok found ≡ all
unfolding encoding_from
pairs_end v place found all le so_far =
    let k : v.count - place ≡ 0 = omega arith in
    let one : Rest v place found ≡ Ok found = rw k refl in
    sym one ∙ so_far

-- What a link's answer says of its verdict, and how links make a chain.
use Rattle.std.proofs.Common.{Result, Ok, Err}
use Prim.Native.Nat.{ℕ}
use mathlib.Core.Path.{◌≡◌, refl, sym, ap, ◌∙◌}
use native.Mathlib.Omega.{arith}
use Rattle.rules.specs.declared.Refusal.{Refusal}
use Rattle.rules.specs.Query.{diameter}
use Rattle.rules.specs.Reading.{Reading, asks, fault}
use Rattle.rules.specs.Verdict.{Verdict, good, refuse, ◌or_else◌, well_read, query_of}
use Rattle.rules.proofs.Laws.Verdict.{good_or_else}
use Rattle.tokens.specs.Waiting.{read_of}
use Rattle.rules.specs.Outcomes.{told}

pub link_good : (v : Verdict) {x : Unit} → Ok x ≡ told v → v ≡ good
unfolding told
link_good good e = refl
link_good (refuse r) e = absurd (let z : ◌≡◌ {A = ℕ} 0 1 = cc in omega arith)

pub link_refused : (v : Verdict) (r : Refusal) → Err r ≡ told v → v ≡ refuse r
unfolding told
link_refused good r e = absurd (let z : ◌≡◌ {A = ℕ} 0 1 = cc in omega arith)
link_refused (refuse s) r e = let q : s ≡ r = cc in ap refuse q

-- a reading without fault, and its diameter
pub read_good : (x : Reading) (d : ℕ) → Ok d ≡ read_of x → well_read x ≡ good
unfolding read_of well_read
read_good (asks q) d e = refl
read_good (fault f) d e = absurd (let z : ◌≡◌ {A = ℕ} 0 1 = cc in omega arith)

pub read_diameter : (x : Reading) (d : ℕ) → Ok d ≡ read_of x → d ≡ diameter (query_of x)
unfolding read_of query_of
read_diameter (asks q) d e = cc
read_diameter (fault f) d e = absurd (let z : ◌≡◌ {A = ℕ} 0 1 = cc in omega arith)

pub read_refused : (x : Reading) (f : Refusal) → Err f ≡ read_of x → well_read x ≡ refuse f
unfolding read_of well_read
read_refused (asks q) f e = absurd (let z : ◌≡◌ {A = ℕ} 0 1 = cc in omega arith)
read_refused (fault s) f e = let q : s ≡ f = cc in ap refuse q

-- a chain goes on past a link that finds nothing, and ends at one that refuses
pub chain_on : (v next : Verdict) {l : Result Unit Refusal} → v ≡ good → l ≡ told next → l ≡ told (v or_else next)
chain_on v next g e = e ∙ ap told (sym (good_or_else v next g))

pub chain_fault : (v next : Verdict) {l : Result Unit Refusal} (r : Refusal) → v ≡ refuse r → l ≡ Err r → l ≡ told (v or_else next)
unfolding ◌or_else◌ told
chain_fault v next r e g = rw e g

pub chain_end : (v next : Verdict) {l : Result Unit Refusal} (r : Refusal) → Err r ≡ told v → l ≡ Err r → l ≡ told (v or_else next)
chain_end v next r e g = chain_fault v next r (link_refused v r e) g

-- the same, by what the calls answered
pub link_on : (v next : Verdict) {l : Result Unit Refusal} {x : Unit} → Ok x ≡ told v → l ≡ told next → l ≡ told (v or_else next)
link_on v next e = chain_on v next (link_good v e)

pub read_on : (x : Reading) (next : Verdict) {l : Result Unit Refusal} (d : ℕ) → Ok d ≡ read_of x → l ≡ told next → l ≡ told (well_read x or_else next)
read_on x next d e = chain_on (well_read x) next (read_good x d e)

pub read_end : (x : Reading) (next : Verdict) {l : Result Unit Refusal} (f : Refusal) → Err f ≡ read_of x → l ≡ Err f → l ≡ told (well_read x or_else next)
read_end x next f e g = chain_fault (well_read x) next f (read_refused x f e) g

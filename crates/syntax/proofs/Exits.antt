-- If a part is refused, so is the whole.
use Rattle.std.proofs.Common.{◌≡◌, List, Option, None}
use Rattle.std.specs.Prelude.{Result, Ok, Err, IfOk, IsErrAnd}
use denote.Ref.{Bor}
use Rattle.tokens.specs.declared.vocabulary.Token.{Token}
use Rattle.tokens.specs.Token.{toks_of}
use Rattle.syntax.specs.Parser.{Parser}
use Rattle.syntax.specs.Gives.{RefusesTokens, Gives, Adds}
use Rattle.syntax.specs.declared.fault.ReadFault.{ReadFault}
use Rattle.syntax.specs.declared.fault.ReadFault.TheVariants as fault

pub fails_on : {Y Z : Type 0} (e : ReadFault) (given : Option Y) (other : Option Z) → (given ≡ None → other ≡ None)
    → RefusesTokens e given → RefusesTokens e other
fails_on (fault.Syntax at) given other h f = h f
fails_on fault.Memory given other h f = tt
fails_on _ given other h f = absurd f

pub refused : {X Y Z : Type 0} (view : X → Z) (r : Result X ReadFault) (e : ReadFault) (given : Option Y)
    (other : Option Z) → IsErrAnd r (λ y. y ≡ e) → (given ≡ None → other ≡ None) → RefusesTokens e given
    → Gives view r other
refused view (Ok x) e given other same h f = absurd same
refused view (Err y) e given other same h f = rw same (fails_on e given other h f)

-- what holds if all is well
pub refused_is_well : {X : Type 0} (P : X → Type 0) (r : Result X ReadFault) (e : ReadFault) → IsErrAnd r (λ y. y ≡ e) → IfOk r P
refused_is_well P (Ok x) e same = absurd same
refused_is_well P (Err y) e same = tt

-- none is added if the next is refused
pub none_added : {X Y : Type 0} (view : X → Y) (r : Result (Bor (List Token)) ReadFault) (e : ReadFault) (parser : Parser Y)
    (ts : List Token) (old new : List X) → IsErrAnd r (λ y. y ≡ e) → RefusesTokens e (parser (toks_of ts))
    → Adds view r parser ts old new
none_added view (Ok x) e parser ts old new same h = absurd same
none_added view (Err y) e parser ts old new same h = rw same h

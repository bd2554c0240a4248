-- What a text makes is right.
use mathlib.Core.Path.{refl}
use native.Mathlib.Omega.{arith}
use Rattle.rules.specs.Grounds.{refused, answered}
use Rattle.sheet.proofs.Own.{own_stands}
use Rattle.sheet.proofs.Language.{own_language}
use Rattle.text.specs.Outcome.{made, short}
use Rattle.text.proofs.Made.{made-accepted}
use Rattle.text.proofs.Numbers.{text_number}
use Rattle.claims.specs.Made.{MadeRight}

pub made-right : MadeRight
made-right text buffer s (refused {k = f} e) z = absurd (omega (arith, (text_number text f e).low))
made-right text buffer s (answered e (made {t = t} p h)) z =
    (t, record { tree = p; filled_with = refl; accepted = made-accepted text e t p; stands = own_stands t; language = own_language t })
made-right text buffer s (answered e (short p h)) z = absurd (omega arith)

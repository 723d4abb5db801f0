-- Definitions. How the code says what comes of a library's product.
use Rattle.reply.specs.Read.{Read, refused, read}
use Rattle.catalogue.specs.Products.{Product, done, made}
use Rattle.std.specs.Prelude.{Result, Ok, Err, Option, Some, None}
use Rattle.reply.specs.declared.Refusal.{Refusal}
use Rattle.block.specs.declared.Indices.{Indices}

abbrev pub said_product : Read Product → Result (Option Indices) Refusal
said_product (refused r) = Err r
said_product (read done) = Ok None
said_product (read (made x)) = Ok (Some x)

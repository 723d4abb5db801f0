-- Definitions. How the code says what a library deck is told.
use Rattle.std.specs.Prelude.{ℕ, List, [], ◌∷◌, length, set, replicate, Result, Ok, Err}
use Rattle.reply.specs.Read.{Read, refused, read}
use Rattle.assembly.specs.declared.BlockAt.{BlockAt}
use Rattle.deck.specs.Said.{block_table}
use Rattle.catalogue.specs.Library.{most_sites, Library}
use Rattle.catalogue.specs.Products.{products}
use Rattle.catalogue.specs.declared.Site.{Site}
use Rattle.catalogue.specs.declared.LibraryRead.{LibraryRead}
use Rattle.catalogue.specs.declared.sites.SitesRead.{SitesRead}
use Rattle.reply.specs.declared.Refusal.{Refusal}

abbrev pub no_site : Site
no_site = record { atom = 0; many = 0; first = 0 }

-- a table of sites, of which the last stands first in the list: each at its turn, then empty places
unfoldable pub site_table : List Site → List Site
site_table [] = replicate most_sites no_site
site_table (s ∷ earlier) = set (site_table earlier) (length earlier) s

abbrev pub said_sites : Read (List Site) → SitesRead
said_sites (refused r) = record { reply = Err r; n = 0; sites = site_table [] }
said_sites (read ss) = record { reply = Ok tt; n = length ss; sites = site_table ss }

-- a library with a table of blocks, of which `count` are there
abbrev pub tabled : List BlockAt → ℕ → Library → LibraryRead
tabled table count l = record { reply = Ok tt; count = count; blocks = table; at = l.at; n = length l.sites; sites = site_table l.sites; products = products l.sites }

abbrev pub refused_library : Result (Unit {0}) Refusal → LibraryRead
refused_library r = record { reply = r; count = 0; blocks = block_table []; at = 0; n = 0; sites = site_table []; products = 0 }

abbrev pub tabled_library : List BlockAt → ℕ → Read Library → LibraryRead
tabled_library table count (refused r) = refused_library (Err r)
tabled_library table count (read l) = tabled table count l

abbrev pub said_library : Read Library → LibraryRead
said_library (refused r) = refused_library (Err r)
said_library (read l) = tabled (block_table l.blocks) (length l.blocks) l

-- The certificate of inconsistent orders, version 2.
use Rattle.std.specs.Prelude.{ℕ, List, ◌++◌, codes}
use Rattle.order_certificates.specs.declared.sharing.Part.{Part}
use Rattle.order_certificates.specs.Sharing.{no_lets, part_text, chain_part, chain_lines}

-- the last lines behind the proof of a cycle
unfoldable pub cycle_end : Part → List ℕ
cycle_end proof = codes "cycle " ++ (part_text proof ++ codes "\nend\n")

-- the certificate of inconsistent orders, from their first cycle
unfoldable pub cycle_text : List ℕ → List ℕ
cycle_text cycle = codes "crmtime 2 orders\n" ++ (chain_lines no_lets cycle ++ cycle_end (chain_part no_lets cycle))

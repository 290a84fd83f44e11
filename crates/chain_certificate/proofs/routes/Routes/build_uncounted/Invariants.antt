use Rattle.chain_certificate.proofs.routes.Routes.build_uncounted.Given as goal

abbrev pub ghosts-build_counted : goal.ghosts-build_counted
ghosts-build_counted a = record { name = a.blank.name; parts = a.blank.parts }

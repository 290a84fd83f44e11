use Rattle.std.proofs.Common.{subst, sym, ◌∙◌}
use Rattle.std.specs.Str.{IsUtf8}
use Rattle.iri_resolve.proofs.Whole.{resolved_utf8, ok_of}
use Rattle.iri_resolve.proofs.resolution.resolve.Goals as goal

pub unwrap-requires : goal.unwrap-requires
unwrap-requires c =
    let utf8 = resolved_utf8 c.as_bytes.result.now c.as_bytes-2.result.now c.as_bytes.ensures.utf8 c.as_bytes-2.ensures.utf8 in
    ok_of _ _ c.as_slice.result.now c.from_utf8.result c.from_utf8.ensures.cases (subst IsUtf8 (sym (c.as_slice.ensures.value ∙ c.in-Ok.ensures)) utf8)

-- A decoder that notes where it is keeps the depth as the one inside does.
use Rattle.std.proofs.Common.{Result}
use Rattle.asn1_laws.specs.Reading.{GivesDepthBack, KeepsDepth, OpensNothing, Reader, TakesDepth}
use Rattle.asn1_laws.specs.declared.decode_error.DecodeError.{DecodeError}
use Rattle.asn1_paths.specs.PathReader.{path_reader}
use Rattle.asn1_paths.specs.declared.decoder.PathDecoder.{PathDecoder}

module _ {D V : Type 0} (R : Reader D) (old new : PathDecoder D) (result : Result V DecodeError) where
  keeps_depth : KeepsDepth R old.inner new.inner result → KeepsDepth (path_reader R) old new result
  keeps_depth keeps = record { same_depth = keeps.same_depth; no_failure = keeps.no_failure; has_failed = keeps.has_failed; failed_before = keeps.failed_before }

  pub opens_nothing : OpensNothing R old.inner new.inner result → OpensNothing (path_reader R) old new result
  opens_nothing opens = record { keeps_depth = keeps_depth opens.keeps_depth; not_too_deep = opens.not_too_deep }

  pub takes_depth : TakesDepth R old.inner new.inner result → TakesDepth (path_reader R) old new result
  takes_depth takes = record {
    one_less = takes.one_less;
    no_failure = takes.no_failure;
    has_failed = takes.has_failed;
    failed_before = takes.failed_before;
    too_deep = takes.too_deep;
    depth_first = takes.depth_first;
  }

  pub gives_depth_back : GivesDepthBack R old.inner new.inner result → GivesDepthBack (path_reader R) old new result
  gives_depth_back gives = record {
    one_more = gives.one_more;
    no_failure = gives.no_failure;
    has_failed = gives.has_failed;
    failed_before = gives.failed_before;
    not_too_deep = gives.not_too_deep;
  }

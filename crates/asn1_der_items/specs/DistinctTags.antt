-- The components of each SET in a record have distinct tags (X.680, 27.3).
pub use Rattle.asn1_model.specs.DistinctSets.{SharesNoTag, HaveDistinctTags, AreDistinctIn, HasDistinctSets, HaveDistinctSets}

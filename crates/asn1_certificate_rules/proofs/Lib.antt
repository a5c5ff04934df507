mod BrokenRulePositions
mod Findings
mod HeaderPositions
mod KeptRules
mod SetOrders

mod Reports

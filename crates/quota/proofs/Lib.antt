mod Quotas
